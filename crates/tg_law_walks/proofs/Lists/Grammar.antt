-- The streams that links name.
use Rattle.std.proofs.Common.{◌≡◌, List, [], ◌∷◌, Bool, true, false, map, refl, sym, inl, inr}
use Rattle.std.specs.Prelude.{◌||◌}
use Rattle.std.specs.List.{list_any}
use Rattle.tg_base.specs.declared.ids.Oid.{Oid}
use Rattle.tg_base.specs.declared.marks.StreamLink.{StreamLink}
use Rattle.tg_codec.proofs.Laws.{and-left, and-right}
use Rattle.tg_base.specs.Orders.{oid_eq}
use Rattle.tg_protocol.specs.Entries.{oid_of_link}
use Rattle.tg_protocol.specs.Appending.{is_link, names_all}
use Rattle.tg_law_layouts.proofs.Moves.Members.{Has}
use Rattle.tg_law_walks.proofs.Walks.Members.{same_oid}

-- in order

pub names_streams : (os : List Oid) (ls : List StreamLink) → names_all os ls ≡ true → map oid_of_link ls ≡ os
names_streams [] [] h = refl
names_streams [] (l ∷ ls) h = absurd (cc)
names_streams (o ∷ os) [] h = absurd (cc)
names_streams (o ∷ os) (l ∷ ls) h =
    let a = sym (same_oid o l.oid (and-left (oid_eq o l.oid) (is_link l) (and-left _ _ h))) in
    let b = names_streams os ls (and-right _ _ h) in
    λ i. a i ∷ b i

-- an entry that stands in a stream names it
pub listed_has : (ls : List StreamLink) (o : Oid) → list_any (λ (l : StreamLink). oid_eq l.oid o) ls ≡ true → Has (map oid_of_link ls) o
listed_has [] o h = absurd (cc)
listed_has (l ∷ ls) o h = by (oid_eq l.oid o) refl h (λ t. listed_has ls o t)
  where
    by : (b : Bool) → oid_eq l.oid o ≡ b → (b || list_any (λ (k : StreamLink). oid_eq k.oid o) ls) ≡ true → (list_any (λ (k : StreamLink). oid_eq k.oid o) ls ≡ true → Has (map oid_of_link ls) o) → Has (map oid_of_link (l ∷ ls)) o
    by true e t rest = inl (sym (same_oid l.oid o e))
    by false e t rest = inr (rest t)
