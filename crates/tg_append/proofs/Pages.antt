-- The page of an entry whose links were issued has a spelling.
use Rattle.std.proofs.Common.{◌≡◌, ℕ, ◌+◌, ◌<◌, ◌≤◌, Bool, true, false, not, ◌&&◌, nat_lt, List, [], ◌∷◌, length, map, refl, sym, ap, ◌∙◌, arith}
use Rattle.std.proofs.lemmas.Bool.Decides.{nat_tests}
use Rattle.std.proofs.lemmas.Bool.{eqb-true}
use Rattle.std.specs.List.{list_all}
use Rattle.tg_base.specs.declared.ids.Oid.{Oid}
use Rattle.tg_base.specs.declared.marks.StreamLink.{StreamLink}
use Rattle.tg_base.proofs.Exact.{and-left, and-right}
use Rattle.tg_codec.proofs.Laws.{both}
use Rattle.tg_entry.specs.declared.entry.Entry.{Entry}
use Rattle.tg_entry.specs.Format.{entry}
use Rattle.tg_entry.specs.Writes.{stream_numbers}
use Rattle.tg_entry.specs.Records.{is_number, are_backs, has_backs, linked}
use Rattle.tg_entry.proofs.Linked.{linked_fit}
use Rattle.tg_protocol.specs.Words.{too_far}
use Rattle.tg_protocol.specs.Entries.{oid_of_link, streams_of}
use Rattle.tg_protocol.specs.Appending.{is_link, names_all}

near_number : (p : ℕ) → not (too_far p) ≡ true → is_number p ≡ true
near_number p e = grind (arith, nat_tests)

near_numbers : (ps : List ℕ) → list_all (λ p. not (too_far p)) ps ≡ true → list_all is_number ps ≡ true
near_numbers [] e = refl
near_numbers (p ∷ ps) e = both _ _ (near_number p (and-left _ _ e)) (near_numbers ps (and-right _ _ e))

link_backs : (l : StreamLink) → is_link l ≡ true → has_backs l ≡ true
link_backs l e =
    let few = and-right _ _ (and-left _ _ e) in
    both _ _ (both _ _ few (near_numbers l.backs (and-right _ _ e))) (and-left _ _ (and-left _ _ e))

links_backs : (os : List Oid) (ls : List StreamLink) → names_all os ls ≡ true → list_all has_backs ls ≡ true
links_backs [] [] e = refl
links_backs [] (l ∷ ls) e = absurd cc
links_backs (o ∷ os) [] e = refl
links_backs (o ∷ os) (l ∷ ls) e = both _ _ (link_backs l (and-right _ _ (and-left _ _ e))) (links_backs os ls (and-right _ _ e))

pub links_numbers : (ss ls : List StreamLink) → names_all (map oid_of_link ss) ls ≡ true → stream_numbers ls ≡ stream_numbers ss
links_numbers [] [] e = refl
links_numbers [] (l ∷ ls) e = absurd cc
links_numbers (s ∷ ss) [] e = absurd cc
links_numbers (s ∷ ss) (l ∷ ls) e =
    let here : s.oid.0 ≡ l.oid.0 = eqb-true s.oid.0 l.oid.0 (and-left _ _ (and-left _ _ e)) in
    let rest = links_numbers ss ls (and-right _ _ e) in
    ap (λ n. n ∷ stream_numbers ls) (sym here) ∙ ap (λ ns. s.oid.0 ∷ ns) rest

pub linked_fits : (e : Entry) (ls : List StreamLink) → names_all (streams_of e) ls ≡ true → entry.fits e ≡ true → entry.fits (linked e ls) ≡ true
linked_fits e ls named fits = linked_fit e ls (links_numbers e.head.streams ls named) (links_backs (streams_of e) ls named) fits
