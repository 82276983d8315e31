use Rattle.std.proofs.Common.{◌≡◌, ◌++◌}
use Rattle.tg_play.proofs.view.copied.Given as goal

abbrev pub invariant-loop-pos : goal.invariant-loop-pos
invariant-loop-pos l = l.list ++ l.pos-iterator ≡ l.positions.keys
