use Rattle.std.proofs.Common.{◌≡◌, ◌++◌, ◌∷◌, take}
use Rattle.std.specs.List.{flat_map}
use Rattle.tg_script.proofs.put.put_some.Given as goal

-- the items so far are written
abbrev pub invariant-loop-item : goal.invariant-loop-item
invariant-loop-item g l = l.out ≡ l.initial.out ++ flat_map (λ (x : g.row.P.Denot). l.byte ∷ g.P.Part.spelled x) (take l.item-index l.rest)
