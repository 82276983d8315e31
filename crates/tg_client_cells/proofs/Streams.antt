-- Positions by stream.
use Rattle.std.proofs.Common.{◌≡◌, ℕ, ◌+◌, ◌-◌, ◌<◌, ◌≤◌, true, ◌||◌, List, [], ◌∷◌, length, get_or, drop, Less, refl, sym, ap, subst, ◌∙◌, inl, inr, arith}
use Rattle.std.specs.Prelude.{unwrap_or}
use Rattle.std.specs.List.{AllByRecursion}
use Rattle.std.specs.List.Sorted.{IsStrictlySortedBy}
use Rattle.std.specs.BTreeMap.{insert_entry, is_at}
use Rattle.std.specs.Map.{lookup, remove_entry, keys_of}
use Rattle.std.proofs.lemmas.Bool.{cases_eq, cases_lt}
use Rattle.std.proofs.lemmas.Bool.Decides.{nat_tests}
use Rattle.std.proofs.lemmas.List.{drop_more}
use Rattle.std.proofs.lemmas.Map.Keys.{sorted_head, sorted_tail}
use Rattle.tg_base.specs.Orders.{oid_cmp}
use Rattle.tg_base.specs.declared.ids.Oid.{Oid}
use Rattle.tg_protocol.specs.Words.{has_num, with_nums}
use Rattle.tg_client_cells.specs.Words.{ByStream, positions_in, with_positions, positions_of, any_has, is_within, within, rises}
use Rattle.tg_client_cells.proofs.Unions.{rises_union, filter_union, has_all}

same-oid : (a b : Oid) → a.0 ≡ b.0 → a ≡ b
same-oid a b e = ap (λ n. record { 0 = n }) e

-- ---- one stream

pub found : (xs : ByStream) (o : Oid) → unwrap_or (lookup (is_at (oid_cmp o)) xs) [] ≡ positions_in xs o
found [] o = refl
found (x ∷ xs) o = let more : unwrap_or (lookup (is_at (oid_cmp o)) xs) [] ≡ positions_in xs o = found xs o in grind (arith, nat_tests)

-- an object below all that are there
none-in : (xs : ByStream) (o : Oid) → AllByRecursion (λ p. oid_cmp o p ≡ Less) (keys_of xs) → positions_in xs o ≡ []
none-in [] o h = refl
none-in (x ∷ xs) o h = let rest : positions_in xs o ≡ [] = none-in xs o h.1 in let lt : o.0 < x.0.0 = grind (arith, nat_tests, h.0) in grind (arith, nat_tests)

none-out : (xs : ByStream) (o : Oid) → AllByRecursion (λ p. oid_cmp o p ≡ Less) (keys_of xs) → remove_entry (is_at (oid_cmp o)) xs ≡ xs
none-out [] o h = refl
none-out (x ∷ xs) o h = let rest : remove_entry (is_at (oid_cmp o)) xs ≡ xs = none-out xs o h.1 in let lt : o.0 < x.0.0 = grind (arith, nat_tests, h.0) in grind (arith, nat_tests)

put-first : (xs : ByStream) (o : Oid) (v : List ℕ) → AllByRecursion (λ p. oid_cmp o p ≡ Less) (keys_of xs) → insert_entry oid_cmp xs o v ≡ (o, v) ∷ xs
put-first [] o v h = refl
put-first (x ∷ xs) o v h = let lt : o.0 < x.0.0 = grind (arith, nat_tests, h.0) in grind (arith, nat_tests)

lower : (xs : ByStream) (o p : Oid) → o.0 < p.0 → AllByRecursion (λ q. oid_cmp p q ≡ Less) (keys_of xs) → AllByRecursion (λ q. oid_cmp o q ≡ Less) (keys_of xs)
lower [] o p lt h = tt
lower (x ∷ xs) o p lt h =
    let mid : p.0 < x.0.0 = grind (arith, nat_tests, h.0) in
    let less : oid_cmp o x.0 ≡ Less = grind (arith, nat_tests) in
    (less, lower xs o p lt h.1)

abbrev kept-as : ByStream → Oid → List ℕ → ByStream
kept-as xs o ps = insert_entry oid_cmp (remove_entry (is_at (oid_cmp o)) xs) o (with_nums ps (positions_in xs o))

kept-before : (x : Oid × List ℕ) (xs : ByStream) (o : Oid) (ps : List ℕ) → o.0 < x.0.0 → positions_in xs o ≡ [] → remove_entry (is_at (oid_cmp o)) xs ≡ xs → kept-as (x ∷ xs) o ps ≡ with_positions (x ∷ xs) o ps
kept-before x xs o ps lt none stays = grind (arith, nat_tests)

kept-past : (x : Oid × List ℕ) (xs : ByStream) (o : Oid) (ps : List ℕ) → x.0.0 < o.0 → kept-as xs o ps ≡ with_positions xs o ps → kept-as (x ∷ xs) o ps ≡ with_positions (x ∷ xs) o ps
kept-past x xs o ps lt more = grind (arith, nat_tests)

kept-here : (x : Oid × List ℕ) (xs : ByStream) (o : Oid) (ps : List ℕ) → x.0.0 ≡ o.0 → kept-as (x ∷ xs) o ps ≡ insert_entry oid_cmp xs o (with_nums ps x.1)
kept-here x xs o ps is = grind (arith, nat_tests)

with-here : (x : Oid × List ℕ) (xs : ByStream) (o : Oid) (ps : List ℕ) → x.0.0 ≡ o.0 → with_positions (x ∷ xs) o ps ≡ (x.0, with_nums ps x.1) ∷ xs
with-here x xs o ps is = grind (arith, nat_tests)

pub kept_is : (xs : ByStream) (o : Oid) (ps : List ℕ) → IsStrictlySortedBy oid_cmp (keys_of xs) → kept-as xs o ps ≡ with_positions xs o ps
kept_is [] o ps h = refl
kept_is (x ∷ xs) o ps h =
    let head : AllByRecursion (λ p. oid_cmp x.0 p ≡ Less) (keys_of xs) = sorted_head oid_cmp x.0 (keys_of xs) h in
    elim (cases_lt o.0 x.0.0) [
      | inl lt ↦ let low : AllByRecursion (λ p. oid_cmp o p ≡ Less) (keys_of xs) = lower xs o x.0 lt head in kept-before x xs o ps lt (none-in xs o low) (none-out xs o low)
      | inr le ↦ elim (cases_eq x.0.0 o.0) [
        | inl same ↦
            let is : x.0 ≡ o = same-oid x.0 o same in
            let low : AllByRecursion (λ p. oid_cmp o p ≡ Less) (keys_of xs) = subst (λ q. AllByRecursion (λ p. oid_cmp q p ≡ Less) (keys_of xs)) is head in
            kept-here x xs o ps same
            ∙ put-first xs o (with_nums ps x.1) low
            ∙ ap (λ (q : Oid). (q, with_nums ps x.1) ∷ xs) (sym is)
            ∙ sym (with-here x xs o ps same)
        | inr other ↦ kept-past x xs o ps (omega (arith, le, other)) (kept_is xs o ps (sorted_tail oid_cmp x.0 (keys_of xs) h))
      ]
    ]

-- what is left once the stream's positions are taken out, and put back with more
pub kept_by : (xs rest : ByStream) (had all : List ℕ) (o : Oid) (ps : List ℕ) → IsStrictlySortedBy oid_cmp (keys_of xs) → rest ≡ remove_entry (is_at (oid_cmp o)) xs → had ≡ positions_in xs o → all ≡ with_nums ps had →
    insert_entry oid_cmp rest o all ≡ with_positions xs o ps
kept_by xs rest had all o ps h r p a =
    ap (λ (ys : ByStream). insert_entry oid_cmp ys o all) r
    ∙ ap (insert_entry oid_cmp (remove_entry (is_at (oid_cmp o)) xs) o) (a ∙ ap (with_nums ps) p)
    ∙ kept_is xs o ps h

-- ---- several streams

pub rises_of : (xs : ByStream) (os : List Oid) → rises (positions_of xs os) ≡ true
rises_of xs [] = refl
rises_of xs (o ∷ os) = rises_union (positions_in xs o) (positions_of xs os) (rises_of xs os)

gathered_first : (xs : ByStream) (o : Oid) (os : List Oid) (low high : ℕ) → with_nums (within low high (positions_in xs o)) (within low high (positions_of xs os)) ≡ within low high (positions_of xs (o ∷ os))
gathered_first xs o os low high = sym (filter_union (is_within low high) (positions_in xs o) (positions_of xs os) (rises_of xs os))

-- with the positions of one stream more, from the last on
pub gathered_more : (xs : ByStream) (os : List Oid) (low high i : ℕ) (now next : List ℕ) → 0 < i → i ≤ length os → now ≡ within low high (positions_of xs (drop i os)) →
    next ≡ with_nums (within low high (positions_in xs (get_or os (i - 1) (record { 0 = 0 })))) now → next ≡ within low high (positions_of xs (drop (i - 1) os))
gathered_more xs os low high i now next some bound was put =
    let o : Oid = get_or os (i - 1) (record { 0 = 0 }) in
    let same : (i - 1) + 1 ≡ i = omega (arith, some) in
    put
    ∙ ap (with_nums (within low high (positions_in xs o))) (was ∙ ap (λ n. within low high (positions_of xs (drop n os))) (sym same))
    ∙ gathered_first xs o (drop ((i - 1) + 1) os) low high
    ∙ ap (λ (ps : List Oid). within low high (positions_of xs ps)) (sym (drop_more os (i - 1) (record { 0 = 0 }) (omega (arith, some, bound))))

pub has_of : (p : ℕ) (xs : ByStream) (os : List Oid) → has_num p (positions_of xs os) ≡ any_has xs os p
has_of p xs [] = refl
has_of p xs (o ∷ os) = has_all p (positions_in xs o) (positions_of xs os) ∙ ap (λ b. has_num p (positions_in xs o) || b) (has_of p xs os)
