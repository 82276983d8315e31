-- Lists without equal items, in order.
use Rattle.std.specs.Prelude.{◌≡◌, ℕ, suc, ◌+◌, ◌≤◌, Bool, true, false, cond, ◌||◌, ◌&&◌, List, [], ◌∷◌, length, map, refl}
use Rattle.std.specs.BTreeSet.{insert_key}
use Rattle.std.specs.Cmp.{IsTotalOrder}
use Rattle.std.specs.List.{list_all, list_any}
use Rattle.std.specs.Ordering.{is_eq, is_lt, ordering_reverse, match_ordering}
use Rattle.std.specs.declared.cmp.Ordering.{Ordering}
use Rattle.std.specs.declared.cmp.Ordering.TheVariants.{Less, Equal, Greater}
use Rattle.std.proofs.Common.{sym, ap, ◌∙◌, arith}
use Rattle.std.proofs.lemmas.Bool.{true≢false}
use Rattle.tg_protocol.specs.Entries.{sum_of}
use Rattle.tg_tx.specs.Pendings.{Above, Rising, has_key}

-- a test of three cases, by an order
pub by_order : {A : Type 0} (r : Ordering) (a b c : A) → cond (is_lt r) a (cond (is_eq r) b c) ≡ match_ordering r a b c
by_order Less a b c = refl
by_order Equal a b c = refl
by_order Greater a b c = refl

either_first : (a b c : Bool) → (a || (b || c)) ≡ (b || (a || c))
either_first true true c = refl
either_first true false c = refl
either_first false b c = refl

twice : (a c : Bool) → (a || c) ≡ (a || (a || c))
twice true c = refl
twice false c = refl

both_true : (a b : Bool) → a ≡ true → b ≡ true → (a && b) ≡ true
both_true true b d e = e
both_true false b d e = absurd (true≢false (sym d))

parted : (a b : Bool) → (a && b) ≡ true → (a ≡ true) × (b ≡ true)
parted true b e = (refl, e)
parted false b e = absurd (true≢false (sym e))

more_first : (a b c : ℕ) → a + (b + c) ≡ b + (a + c)
more_first a b c = omega arith

one_later : (n : ℕ) (b : Bool) → suc (cond b n (suc n)) ≡ cond b (suc n) (suc (suc n))
one_later n true = refl
one_later n false = refl

pub some_put : {K : Type 0} (R : K → K → Ordering) (k : K) (xs : List K) → 1 ≤ length (insert_key R xs k)
some_put R k [] = omega arith
some_put R k (x ∷ xs) = by (R k x)
  where
    by : (r : Ordering) → 1 ≤ length (match_ordering r (k ∷ x ∷ xs) (x ∷ xs) (x ∷ insert_key R xs k))
    by Less = omega arith
    by Equal = omega arith
    by Greater = omega arith

module _ {K : Type 0} {R : K → K → Ordering} (o : IsTotalOrder R) where
  pub above_more : (j k : K) (xs : List K) → R j k ≡ Less → Above R k xs → Above R j xs
  above_more j k [] e h = tt
  above_more j k (x ∷ xs) e h = (o.trans j k x e h.0, above_more j k xs e h.1)

  turned_back : (k x : K) → R k x ≡ Greater → R x k ≡ Less
  turned_back k x e = o.antisymm x k ∙ ap ordering_reverse e

  above_put : (j k : K) (xs : List K) → R j k ≡ Less → Above R j xs → Above R j (insert_key R xs k)
  above_put j k [] e h = (e, tt)
  above_put j k (x ∷ xs) e h = by (above_put j k xs e h.1) (R k x)
    where
      by : Above R j (insert_key R xs k) → (r : Ordering) → Above R j (match_ordering r (k ∷ x ∷ xs) (x ∷ xs) (x ∷ insert_key R xs k))
      by more Less = (e, h)
      by more Equal = h
      by more Greater = (h.0, more)

  pub rising_put : (k : K) (xs : List K) → Rising R xs → Rising R (insert_key R xs k)
  rising_put k [] h = (tt, tt)
  rising_put k (x ∷ xs) h = by (rising_put k xs h.1) (R k x) refl
    where
      by : Rising R (insert_key R xs k) → (r : Ordering) → R k x ≡ r → Rising R (match_ordering r (k ∷ x ∷ xs) (x ∷ xs) (x ∷ insert_key R xs k))
      by more Less e = ((e, above_more k x xs e h.0), h)
      by more Equal e = h
      by more Greater e = (above_put x k xs (turned_back k x e) h.0, more)

  above_none : (k : K) (xs : List K) → Above R k xs → has_key R k xs ≡ false
  above_none k [] h = refl
  above_none k (x ∷ xs) h = ap (λ (r : Ordering). is_eq r || has_key R k xs) h.0 ∙ above_none k xs h.1

  -- a key that is there changes nothing
  pub put_same : (k : K) (xs : List K) → Rising R xs → has_key R k xs ≡ true → insert_key R xs k ≡ xs
  put_same k [] h e = absurd (true≢false (sym e))
  put_same k (x ∷ xs) h e = by (put_same k xs h.1) (R k x) refl
    where
      by : (has_key R k xs ≡ true → insert_key R xs k ≡ xs) → (r : Ordering) → R k x ≡ r → match_ordering r (k ∷ x ∷ xs) (x ∷ xs) (x ∷ insert_key R xs k) ≡ x ∷ xs
      by more Less is = absurd (true≢false (sym e ∙ ap (λ (s : Ordering). is_eq s || has_key R k xs) is ∙ above_none k xs (above_more k x xs is h.0)))
      by more Equal is = refl
      by more Greater is = ap (λ (ys : List K). x ∷ ys) (more (sym (ap (λ (s : Ordering). is_eq s || has_key R k xs) is) ∙ e))

  pub length_put : (k : K) (xs : List K) → Rising R xs → length (insert_key R xs k) ≡ cond (has_key R k xs) (length xs) (suc (length xs))
  length_put k [] h = refl
  length_put k (x ∷ xs) h = by (length_put k xs h.1) (R k x) refl
    where
      by : length (insert_key R xs k) ≡ cond (has_key R k xs) (length xs) (suc (length xs)) → (r : Ordering) → R k x ≡ r
          → length (match_ordering r (k ∷ x ∷ xs) (x ∷ xs) (x ∷ insert_key R xs k)) ≡ cond (is_eq (R k x) || has_key R k xs) (suc (length xs)) (suc (suc (length xs)))
      by more Less is = ap (λ (b : Bool). cond b (suc (length xs)) (suc (suc (length xs)))) (sym (ap (λ (s : Ordering). is_eq s || has_key R k xs) is ∙ above_none k xs (above_more k x xs is h.0)))
      by more Equal is = ap (λ (s : Ordering). cond (is_eq s || has_key R k xs) (suc (length xs)) (suc (suc (length xs)))) (sym is)
      by more Greater is = ap suc more ∙ one_later (length xs) (has_key R k xs) ∙ ap (λ (s : Ordering). cond (is_eq s || has_key R k xs) (suc (length xs)) (suc (suc (length xs)))) (sym is)

  pub sum_put : (f : K → ℕ) (k : K) (xs : List K) → has_key R k xs ≡ false → sum_of (map f (insert_key R xs k)) ≡ f k + sum_of (map f xs)
  sum_put f k [] e = refl
  sum_put f k (x ∷ xs) e = by (sum_put f k xs) (R k x) refl
    where
      by : (has_key R k xs ≡ false → sum_of (map f (insert_key R xs k)) ≡ f k + sum_of (map f xs)) → (r : Ordering) → R k x ≡ r
          → sum_of (map f (match_ordering r (k ∷ x ∷ xs) (x ∷ xs) (x ∷ insert_key R xs k))) ≡ f k + (f x + sum_of (map f xs))
      by more Less is = refl
      by more Equal is = absurd (true≢false (ap (λ (s : Ordering). is_eq s || has_key R k xs) (sym is) ∙ e))
      by more Greater is = ap (λ (n : ℕ). f x + n) (more (sym (ap (λ (s : Ordering). is_eq s || has_key R k xs) is) ∙ e)) ∙ more_first (f x) (f k) (sum_of (map f xs))

  pub all_put : (p : K → Bool) (k : K) (xs : List K) → p k ≡ true → list_all p xs ≡ true → list_all p (insert_key R xs k) ≡ true
  all_put p k [] d e = both_true _ _ d refl
  all_put p k (x ∷ xs) d e = by (all_put p k xs d (parted _ _ e).1) (R k x)
    where
      by : list_all p (insert_key R xs k) ≡ true → (r : Ordering) → list_all p (match_ordering r (k ∷ x ∷ xs) (x ∷ xs) (x ∷ insert_key R xs k)) ≡ true
      by more Less = both_true _ _ d e
      by more Equal = e
      by more Greater = both_true _ _ (parted _ _ e).0 more

  -- a test that equal keys pass alike
  pub any_put : (p : K → Bool) → ((x y : K) → R x y ≡ Equal → p x ≡ p y) → (k : K) (xs : List K) → list_any p (insert_key R xs k) ≡ (p k || list_any p xs)
  any_put p alike k [] = refl
  any_put p alike k (x ∷ xs) = by (any_put p alike k xs) (R k x) refl
    where
      by : list_any p (insert_key R xs k) ≡ (p k || list_any p xs) → (r : Ordering) → R k x ≡ r
          → list_any p (match_ordering r (k ∷ x ∷ xs) (x ∷ xs) (x ∷ insert_key R xs k)) ≡ (p k || (p x || list_any p xs))
      by more Less is = refl
      by more Equal is = twice (p x) (list_any p xs) ∙ ap (λ (b : Bool). b || (p x || list_any p xs)) (sym (alike k x is))
      by more Greater is = ap (λ (b : Bool). p x || b) more ∙ either_first (p x) (p k) (list_any p xs)
