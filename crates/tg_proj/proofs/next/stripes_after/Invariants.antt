use Rattle.std.proofs.Common.{◌≡◌, take}
use Rattle.tg_proj.specs.Next.{next_chains}
use Rattle.tg_proj.proofs.next.stripes_after.Given as goal

abbrev pub invariant-loop-stripe : goal.invariant-loop-stripe
invariant-loop-stripe l = l.next ≡ next_chains l.change l.range 0 (take l.stripe l.stripes)
