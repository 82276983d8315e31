use Rattle.std.proofs.Common.{◌≡◌, take}
use Rattle.tg_proj.specs.Next.{next_ranges}
use Rattle.tg_proj.proofs.next.ranges_after.Given as goal

abbrev pub invariant-loop-number : goal.invariant-loop-number
invariant-loop-number l = l.next ≡ next_ranges l.change 0 (take l.number l.ranges)
