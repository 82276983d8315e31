use Rattle.std.proofs.Common.{◌≡◌, take}
use Rattle.std.specs.Prelude.{fold}
use Rattle.std.specs.List.{concat}
use Rattle.tg_proj.specs.Refusals.{less_unacked}
use Rattle.tg_proj.proofs.refusal.least_of_chains.Given as goal

abbrev pub invariant-loop-chain : goal.invariant-loop-chain
invariant-loop-chain l = l.best ≡ fold (less_unacked l.acks) l.fn.best (concat (take l.chain-index l.chains))
