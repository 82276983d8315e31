use Rattle.std.proofs.Common.{◌≡◌, drop}
use Rattle.tg_protocol.specs.Views.{decision_in}
use Rattle.tg_play.proofs.decisions.decision_among.Given as goal

abbrev pub invariant-loop-entry : goal.invariant-loop-entry
invariant-loop-entry l = decision_in (drop l.entry-index l.entries) l.pos ≡ decision_in l.entries l.pos
