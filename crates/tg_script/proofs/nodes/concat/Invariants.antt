use Rattle.std.proofs.Common.{◌≡◌, ◌++◌, ℕ, List, take}
use Rattle.std.specs.List.{flat_map}
use Rattle.tg_script.proofs.nodes.concat.Given as goal

-- the units of the chains so far
abbrev pub invariant-loop-chain : goal.invariant-loop-chain
invariant-loop-chain l = l.units ≡ l.initial.units ++ flat_map (λ (c : List ℕ). c) (take l.chain-index l.chains)
