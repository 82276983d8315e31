use Rattle.std.proofs.Common.{◌+◌, ◌-◌, ◌*◌, ◌/◌, ◌∙◌, sym, ap, arith}
use Rattle.tg_protocol.specs.Units.{UnitState}
use Rattle.tg_unit.proofs.Gaps.{gap-none, gap-bare, jump-run}
use Rattle.tg_unit.proofs.unit.Unit.missing_kept.Goals as goal

pub returns-then-run-eq0 : goal.returns-then-run-eq0
returns-then-run-eq0 c =
    let kept = c.requires.kept in
    sym (gap-bare c.args.self.now c.self.inside.cells c.args.step c.args.hi c.loop-pos.pos c.run.result (ap (λ (u : UnitState). u.cells) c.self.view_is)
    c.requires.step c.loop-pos-test.true (omega arith) (omega arith) c.run.ensures.bare)
    ∙ c.loop-pos.invariant.same

pub returns-then-hi-last : goal.returns-then-hi-last
returns-then-hi-last c =
    sym (gap-none c.args.self.now c.args.step c.args.hi (c.loop-pos.pos + (c.min-run.result - 1) / c.args.step * c.args.step + c.args.step) c.requires.step (omega arith))
    ∙ jump-run c.args.self.now c.self.inside.cells c.args.step c.args.hi c.loop-pos.pos c.run.result c.min-run.result (ap (λ (u : UnitState). u.cells) c.self.view_is)
    c.requires.step c.loop-pos-test.true (omega arith) (omega arith) c.run.ensures.held
    ∙ c.loop-pos.invariant.same

pub loop-pos-preserved : goal.loop-pos-preserved
loop-pos-preserved c = record {
  from = omega arith;
  same =
      jump-run c.args.self.now c.self.inside.cells c.args.step c.args.hi c.loop-pos.pos c.run.result c.min-run.result (ap (λ (u : UnitState). u.cells) c.self.view_is)
      c.requires.step c.loop-pos-test.true (omega arith) (omega arith) c.run.ensures.held
      ∙ c.loop-pos.invariant.same;
}

pub returns : goal.returns
returns c =
    sym (gap-none c.args.self.now c.args.step c.args.hi c.loop-pos.pos c.requires.step (omega arith))
    ∙ c.loop-pos.invariant.same
