use Rattle.std.proofs.Common.{◌≡◌, take}
use Rattle.std.specs.Prelude.{fold}
use Rattle.std.specs.List.{concat}
use Rattle.tg_proj.specs.Next.{next_chains}
use Rattle.tg_proj.specs.Refusals.{less_unacked}
use Rattle.tg_proj.proofs.refusal.least_of_stripes.Given as goal

abbrev pub invariant-loop-stripe : goal.invariant-loop-stripe
invariant-loop-stripe l = l.best ≡ fold (less_unacked l.acks) l.fn.best (concat (next_chains l.change l.range 0 (take l.stripe l.stripes)))
