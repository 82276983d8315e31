use Rattle.std.proofs.Common.{◌≡◌, take, None}
use Rattle.std.specs.Prelude.{fold}
use Rattle.tg_proj.specs.Next.{next_ranges}
use Rattle.tg_proj.specs.Refusals.{less_unacked, units_of}
use Rattle.tg_proj.proofs.refusal.least_of_ranges.Given as goal

abbrev pub invariant-loop-number : goal.invariant-loop-number
invariant-loop-number l = l.best ≡ fold (less_unacked l.acks) None (units_of (next_ranges l.change 0 (take l.number l.ranges)))
