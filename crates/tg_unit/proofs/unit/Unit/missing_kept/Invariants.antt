use Rattle.std.proofs.Common.{◌≡◌, ◌≤◌, ◌-◌}
use Rattle.tg_unit.specs.Missing.{missing_from}
use Rattle.tg_unit.proofs.unit.Unit.missing_kept.Given as goal

abbrev pub invariant-loop-pos : goal.invariant-loop-pos
invariant-loop-pos l = record {
  from : l.lo ≤ l.pos;
  same : missing_from l.self l.step l.hi l.pos ≡ missing_from l.self l.step l.hi l.lo;
}

abbrev pub decreases-loop-pos : goal.decreases-loop-pos
decreases-loop-pos l = l.hi - l.pos
