use Rattle.std.proofs.Common.{◌≡◌, ◌++◌, ◌∷◌, take}
use Rattle.std.specs.List.{flat_map}
use Rattle.tg_any.proofs.phrase.put_items.Given as goal

abbrev pub invariant-loop-item : goal.invariant-loop-item
invariant-loop-item g l =
    l.out ≡ l.initial.out ++ flat_map (λ (x : g.row.A.Denot). 32 ∷ g.A.Field.word.spell x) (take l.item-index l.rest)
