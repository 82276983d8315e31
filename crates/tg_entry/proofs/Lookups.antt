-- What a search among entries in order finds.
use Rattle.std.proofs.Common.{◌≡◌, ℕ, zero, suc, ◌<◌, ◌≤◌, inl, inr, false, eqb, [], ◌∷◌, length, get_or, Some, Result, Ok, Err, IfOk, IfErr, refl, sym, arith}
use Rattle.std.specs.List.Sorted.{IsSearchInRange, IsBinarySearchResult, IsNonDecreasingBy}
use Rattle.std.specs.Ordering.{nat_cmp, ordering_index}
use Rattle.std.proofs.lemmas.Cmp.{ranked}
use Rattle.std.proofs.lemmas.Bool.{ltb-true, eq-eqb, ne_eqb, cond-true, cases_lt}
use Rattle.std.proofs.lemmas.Bool.Decides.{nat_tests}
use Rattle.tg_codec.proofs.Laws.{and-left, and-right}
use Rattle.tg_entry.specs.declared.entry.Entry.{Entry}
use Rattle.tg_entry.specs.Drafts.{Placed, IsInOrder, entry_at, IsPlaceOf, IsNowhere}

order_rest : (e : ℕ × Entry) (es : Placed) → IsInOrder (e ∷ es) → IsInOrder es
order_rest e [] h = refl
order_rest e (x ∷ es) h = and-right _ _ h

-- the first stands below each other
first_below : (e : ℕ × Entry) (es : Placed) → IsInOrder (e ∷ es) → (i : ℕ) (d : ℕ × Entry) → i < length es → e.0 < (get_or es i d).0
first_below e [] h i d lt = absurd (omega (arith, lt))
first_below e (x ∷ es) h zero d lt = ltb-true _ _ (and-left _ _ h)
first_below e (x ∷ es) h (suc i) d lt =
    let less : e.0 < x.0 = ltb-true _ _ (and-left _ _ h) in
    let more = first_below x es (and-right _ _ h) i d (omega (arith, lt)) in
    omega (arith, less, more)

rises : (es : Placed) → IsInOrder es → (i j : ℕ) (d : ℕ × Entry) → i ≤ j → j < length es → (get_or es i d).0 ≤ (get_or es j d).0
rises [] h i j d le lt = absurd (omega (arith, lt))
rises (e ∷ es) h zero zero d le lt = omega arith
rises (e ∷ es) h zero (suc j) d le lt = let below = first_below e es h j d (omega (arith, lt)) in omega (arith, below)
rises (e ∷ es) h (suc i) zero d le lt = absurd (omega (arith, le))
rises (e ∷ es) h (suc i) (suc j) d le lt = rises es (order_rest e es h) i j d (omega (arith, le)) (omega (arith, lt))

found_at : (es : Placed) (at place : ℕ) → IsInOrder es → place < length es → ((d : ℕ × Entry) → (get_or es place d).0 ≡ at) → (d : ℕ × Entry) → entry_at es at ≡ Some (get_or es place d).1
found_at [] at place h lt same d = absurd (omega (arith, lt))
found_at (e ∷ es) at zero h lt same d = cond-true (eqb e.0 at) (Some e.1) (entry_at es at) (eq-eqb _ _ (same d))
found_at (e ∷ es) at (suc place) h lt same d =
    let below = first_below e es h place d (omega (arith, lt)) in
    let other : eqb e.0 at ≡ false = ne_eqb _ _ (λ is. omega (arith, is, same d, below)) in
    rw other (found_at es at place (order_rest e es h) (omega (arith, lt)) same d)

nowhere : (es : Placed) (at : ℕ) → ((i : ℕ) (d : ℕ × Entry) → i < length es → (get_or es i d).0 ≡ at → ⊥) → IsNowhere es at
nowhere [] at h = refl
nowhere (e ∷ es) at h =
    let other : eqb e.0 at ≡ false = ne_eqb _ _ (h 0 e (omega arith)) in
    rw other (nowhere es at (λ i d lt. h (suc i) d (omega (arith, lt))))

compared : (es : Placed) (at : ℕ) → IsInOrder es → IsNonDecreasingBy (λ e. ordering_index (nat_cmp e.0 at)) es
compared es at h i j d le lt = let up = rises es h i j d le lt in grind (arith, nat_tests, up)

pub record Searched (es : Placed) (at : ℕ) (r : Result ℕ ℕ) : Type 0 where
  pub found : IfOk r (IsPlaceOf es at)
  pub absent : IfErr r (λ _. IsNowhere es at)

pub searched : (es : Placed) (at : ℕ) (r : Result ℕ ℕ) → IsInOrder es → IsSearchInRange r (length es) → IsBinarySearchResult (λ e. nat_cmp e.0 at) es r → Searched es at r
searched es at (Ok place) h there equal = record {
  found = record { there = there; found = found_at es at place h there (λ d. ranked _ at _ (sym (equal d))) };
  absent = tt;
}
searched es at (Err place) h there parted = record {
  found = tt;
  absent = nowhere es at (λ i d lt is. elim (cases_lt i place) [
    | inl below ↦ let less : (get_or es i d).0 < at = ranked _ at _ (sym ((parted (compared es at h)).0 i d (omega arith) below)) in omega (arith, less, is)
    | inr from ↦ let more : at < (get_or es i d).0 = ranked _ at _ (sym ((parted (compared es at h)).1 i d from lt)) in omega (arith, more, is)
  ]);
}
