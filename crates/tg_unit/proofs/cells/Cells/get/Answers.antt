use Rattle.std.proofs.Common.{◌∙◌, Some, None, sym}
use Rattle.tg_unit.proofs.Found.{at-position}
use Rattle.tg_unit.proofs.cells.Cells.get.Goals as goal

pub returns-in-None : goal.returns-in-None
returns-in-None c = sym (at-position c.self.inside.segments.entries c.args.self.now c.args.pos None c.self.view_is c.self.invariant (sym c.in-None.ensures.value))

pub returns-in-Some : goal.returns-in-Some
returns-in-Some c =
    c.get-in-Some.ensures
    ∙ sym (at-position c.self.inside.segments.entries c.args.self.now c.args.pos (Some c.in-Some.segment.now) c.self.view_is c.self.invariant (sym c.in-Some.ensures.value))
