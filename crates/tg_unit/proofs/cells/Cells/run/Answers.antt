use Rattle.std.proofs.Common.{◌≡◌, ◌∙◌, ◌+◌, ◌%◌, None, sym, ap, subst, arith}
use Rattle.tg_protocol.specs.Words.{cell_at}
use Rattle.tg_unit.specs.Bits.{IsRun}
use Rattle.tg_unit.proofs.Found.{run-held, run-bare, at-position}
use Rattle.tg_unit.proofs.cells.Cells.run.Goals as goal

pub returns-in-None-clause-bare : goal.returns-in-None-clause-bare
returns-in-None-clause-bare c = λ below.
    let e : c.args.pos + 0 ≡ c.args.pos = omega arith in
    ap (cell_at c.args.self.now) e
    ∙ at-position c.self.inside.segments.entries c.args.self.now c.args.pos None c.self.view_is c.self.invariant (sym c.in-None.ensures.value)

pub returns-in-Some-clause-held : goal.returns-in-Some-clause-held
returns-in-Some-clause-held c =
    run-held c.self.inside.segments.entries c.args.self.now c.args.pos c.from.result c.in-Some.segment.now c.self.view_is c.self.invariant (sym c.in-Some.ensures.value)
    (subst (IsRun c.in-Some.segment.now.held (c.args.pos % 64)) (sym c.from.ensures) c.run.ensures)

pub returns-in-Some-clause-bare : goal.returns-in-Some-clause-bare
returns-in-Some-clause-bare c =
    run-bare c.self.inside.segments.entries c.args.self.now c.args.pos c.from.result c.in-Some.segment.now c.self.view_is c.self.invariant (sym c.in-Some.ensures.value)
    (subst (IsRun c.in-Some.segment.now.held (c.args.pos % 64)) (sym c.from.ensures) c.run.ensures)
