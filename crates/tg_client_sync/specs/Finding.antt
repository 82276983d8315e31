-- What walks find.
use Rattle.std.specs.Prelude.{ℕ, List, [], ◌∷◌, ◌++◌, Option, Some, None}
use Rattle.tg_base.specs.declared.ids.Oid.{Oid}
use Rattle.tg_kind.specs.Meaning.{Meaning}
use Rattle.tg_client_cells.specs.Words.{with_positions}
use Rattle.tg_client_state.specs.Tasks.{JobOf}

abbrev pub trims_after : List (Oid × ℕ) → Oid → Option ℕ → List (Oid × ℕ)
trims_after ts o None = ts
trims_after ts o (Some b) = ts ++ (o, b) ∷ []

-- the first stream, and the others
abbrev pub first_and_others : List Oid → Option (Oid × List Oid)
first_and_others [] = None
first_and_others (o ∷ os) = Some (o, os)

module _ (m : Meaning) where
  abbrev pub found_in : JobOf m → Oid → List ℕ → Option ℕ → JobOf m
  found_in j o ps gone = record j { found = with_positions j.found o ps; trims = trims_after j.trims o gone }
