-- Windows: one place more, and what is left out of them.
use Rattle.std.proofs.Common.{◌≡◌, ℕ, zero, suc, ◌+◌, ◌-◌, ◌<◌, ◌≤◌, cond, List, [], ◌∷◌, Bool, true, false, refl, sym, ap, subst, ◌∙◌, inl, inr, length, get_or, take, drop, map, arith}
use Rattle.std.specs.Prelude.{◌==◌, min, Option, Some, None, if◌then◌else◌, filter}
use Rattle.std.specs.Ordering.{nat_cmp}
use Rattle.std.specs.BTreeMap as tree
use Rattle.std.specs.BTreeMap.{is_at, Updates}
use Rattle.std.proofs.lemmas.Bool.{cases_eq}
use Rattle.std.proofs.lemmas.Bool.Decides.{nat_tests}
use Rattle.std.proofs.lemmas.Grind.{common_steps}
use Rattle.tg_audit.specs.Places.{Windows, window_of, or_empty, start_of, IsWindow, AreWindows, AreWithin, between, cut, IsRising, IsBetween, Splits}

-- The window of a key, after a place of the key was noted, and after one of another key was.

start_ends : (a b n : ℕ) → a ≤ b → b ≤ n → (if b == 0 then n else a) ≤ n + 1
start_ends a b n h l = grind (arith, nat_tests, h, l)

not_zero : (b : ℕ) → (suc b == 0) ≡ false
not_zero b = grind (arith, nat_tests)

-- nothing stands before the start
start_before : (keys : List ℕ) (n k a b j : ℕ) → ((i : ℕ) → i < a → get_or keys i 0 ≡ k → ⊥) → ((i : ℕ) → b ≤ i → i < n → get_or keys i 0 ≡ k → ⊥)
    → j < (if b == 0 then n else a) → get_or keys j 0 ≡ k → ⊥
start_before keys n k a zero j before after h e = after j (omega arith) h e
start_before keys n k a (suc b) j before after h e = before j (subst (λ (t : Bool). j < (if t then n else a)) (not_zero b) h) e

own_window : (keys : List ℕ) (n k : ℕ) (w : ℕ × ℕ) → IsWindow keys n k w → IsWindow keys (n + 1) k (start_of w n, n + 1)
own_window keys n k w is = record {
  ends = start_ends w.0 w.1 n is.ends is.within;
  within = omega arith;
  before = λ j h e. start_before keys n k w.0 w.1 j is.before is.after h e;
  after = λ j h l e. absurd (omega (arith, h, l));
}

other_after : (keys : List ℕ) (n q b j : ℕ) → ((i : ℕ) → b ≤ i → i < n → get_or keys i 0 ≡ q → ⊥) → (get_or keys n 0 ≡ q → ⊥) → b ≤ j → j < n + 1 → get_or keys j 0 ≡ q → ⊥
other_after keys n q b j after apart h l e =
    elim (cases_eq j n) [
      | inl same ↦ apart (ap (λ (i : ℕ). get_or keys i 0) (sym same) ∙ e)
      | inr other ↦ after j h (omega (arith, l, other)) e
    ]

other_window : (keys : List ℕ) (n q : ℕ) (w : ℕ × ℕ) → (get_or keys n 0 ≡ q → ⊥) → IsWindow keys n q w → IsWindow keys (n + 1) q w
other_window keys n q w apart is = record {
  ends = is.ends;
  within = omega (arith, is.within);
  before = is.before;
  after = λ j h l e. other_after keys n q w.1 j is.after apart h l e;
}

-- what an update finds
found_own : (m n : Windows) (k : ℕ) (w : ℕ × ℕ) (q : ℕ) → k ≡ q → Updates nat_cmp m n k (Some w) → window_of n q ≡ w
found_own m n k w q same up = ap (λ (i : ℕ). window_of n i) (sym same) ∙ ap or_empty up.1

found_other : (m n : Windows) (k : ℕ) (w : ℕ × ℕ) (q : ℕ) → (k ≡ q → ⊥) → Updates nat_cmp m n k (Some w) → window_of n q ≡ window_of m q
found_other m n k w q apart up = grind (arith, common_steps, nat_tests, apart, up.0 q)

pub windows_next : (keys : List ℕ) (n : ℕ) (old new : Windows) (k start : ℕ) → k ≡ get_or keys n 0 → start ≡ start_of (window_of old k) n
    → Updates nat_cmp old new k (Some (start, n + 1)) → AreWindows keys n old → AreWindows keys (n + 1) new
windows_next keys n old new k start here from up are q =
    elim (cases_eq k q) [
      | inl same ↦
          subst (IsWindow keys (n + 1) q) (sym (found_own old new k (start, n + 1) q same up))
          (subst (λ (i : ℕ). IsWindow keys (n + 1) i (start, n + 1)) same
          (subst (λ (s : ℕ). IsWindow keys (n + 1) k (s, n + 1)) (sym from) (own_window keys n k (window_of old k) (are k))))
      | inr apart ↦
          subst (IsWindow keys (n + 1) q) (sym (found_other old new k (start, n + 1) q apart up))
          (other_window keys n q (window_of old q) (λ e. apart (here ∙ e)) (are q))
    ]

pub length_map : {X Y : Type 0} (f : X → Y) (xs : List X) → length (map f xs) ≡ length xs
length_map f [] = refl
length_map f (x ∷ xs) = ap (λ (n : ℕ). suc n) (length_map f xs)

take_none : {X : Type 0} (n : ℕ) → take {A = X} n [] ≡ []
take_none zero = refl
take_none (suc n) = refl

cut_none : {X : Type 0} (n a : ℕ) → take n (drop {A = X} a []) ≡ []
cut_none n zero = take_none n
cut_none n (suc a) = take_none n

-- What is left out of a window.

module _ {X : Type 0} (p : X → Bool) (f : X → ℕ) (q : ℕ) (own : (x : X) → p x ≡ true → f x ≡ q) where
  -- an item of another key isn't kept
  passed : (x : X) (rest : List X) (b : Bool) → p x ≡ b → (f x ≡ q → ⊥) → filter p (x ∷ rest) ≡ filter p rest
  passed x rest true e apart = absurd (apart (own x e))
  passed x rest false e apart = ap (λ (b : Bool). cond b (x ∷ filter p rest) (filter p rest)) e

  none_kept : (xs : List X) (n : ℕ) → ((j : ℕ) → j < n → j < length xs → get_or (map f xs) j 0 ≡ q → ⊥) → [] ≡ filter p (take n xs)
  none_kept [] zero out = refl
  none_kept [] (suc n) out = refl
  none_kept (x ∷ xs) zero out = refl
  none_kept (x ∷ xs) (suc n) out =
      none_kept xs n (λ j h l e. out (suc j) (omega (arith, h)) (omega (arith, l)) e)
      ∙ sym (passed x (take n xs) (p x) refl (λ e. out 0 (omega arith) (omega arith) e))

  -- what a window keeps of the first items is all of it
  pub kept : (xs : List X) (a c n : ℕ) → a + c ≤ n → ((j : ℕ) → j < a → j < length xs → get_or (map f xs) j 0 ≡ q → ⊥)
      → ((j : ℕ) → a + c ≤ j → j < n → j < length xs → get_or (map f xs) j 0 ≡ q → ⊥) → filter p (take c (drop a xs)) ≡ filter p (take n xs)
  kept [] a c n h before after = ap (filter p) (cut_none c a ∙ sym (take_none n))
  kept (x ∷ xs) zero zero n h before after = none_kept (x ∷ xs) n (λ j i o e. after j (omega arith) i o e)
  kept (x ∷ xs) zero (suc c) zero h before after = absurd (omega (arith, h))
  kept (x ∷ xs) zero (suc c) (suc n) h before after =
      ap (λ (ys : List X). cond (p x) (x ∷ ys) ys)
      (kept xs zero c n (omega (arith, h)) (λ j i o e. absurd (omega (arith, i))) (λ j i o s e. after (suc j) (omega (arith, i)) (omega (arith, o)) (omega (arith, s)) e))
  kept (x ∷ xs) (suc a) c zero h before after = absurd (omega (arith, h))
  kept (x ∷ xs) (suc a) c (suc n) h before after =
      kept xs a c n (omega (arith, h)) (λ j i o e. before (suc j) (omega (arith, i)) (omega (arith, o)) e)
      (λ j i o s e. after (suc j) (omega (arith, i)) (omega (arith, o)) (omega (arith, s)) e)
      ∙ sym (passed x (take n xs) (p x) refl (λ e. before 0 (omega arith) (omega arith) e))

  pub cut_kept : (xs : List X) (m : Windows) (n : ℕ) → n ≤ length xs → AreWindows (map f xs) (length (map f xs)) m → filter p (cut (window_of m q) n xs) ≡ filter p (take n xs)
  cut_kept xs m n h are =
      let a = min (window_of m q).0 (min (window_of m q).1 n) in
      let b = min (window_of m q).1 n in
      let whole : a + (b - a) ≡ b = omega arith in
      kept xs a (b - a) n (omega arith)
      (λ j i o e. (are q).before j (omega (arith, i)) e)
      (λ j i o s e. (are q).after j (omega (arith, i, o, whole)) (subst (λ (l : ℕ). j < l) (sym (length_map f xs)) s) e)

-- Rising numbers.

-- each number up to one is at most that
rising_to : (xs : List ℕ) → IsRising xs → (i d : ℕ) → i + d < length xs → get_or xs i 0 ≤ get_or xs (i + d) 0
rising_to xs rise i zero h =
    let same : i + 0 ≡ i = omega arith in
    let last : get_or xs (i + 0) 0 ≡ get_or xs i 0 = ap (λ (k : ℕ). get_or xs k 0) same in
    omega (arith, last)
rising_to xs rise i (suc d) h =
    let least : get_or xs i 0 ≤ get_or xs (i + d) 0 = rising_to xs rise i d (omega (arith, h)) in
    let next : get_or xs (i + d) 0 < get_or xs (i + d + 1) 0 = rise (i + d) (omega (arith, h)) in
    let same : i + d + 1 ≡ i + suc d = omega arith in
    let last : get_or xs (i + d + 1) 0 ≡ get_or xs (i + suc d) 0 = ap (λ (k : ℕ). get_or xs k 0) same in
    omega (arith, least, next, last)

pub rising_below : (xs : List ℕ) → IsRising xs → (i j : ℕ) → i ≤ j → j < length xs → get_or xs i 0 ≤ get_or xs j 0
rising_below xs rise i j h l =
    let same : i + (j - i) ≡ j = omega (arith, h) in
    subst (λ (k : ℕ). get_or xs i 0 ≤ get_or xs k 0) same (rising_to xs rise i (j - i) (omega (arith, h, l)))

split_below : (xs : List ℕ) (n bound i : ℕ) → IsRising xs → IsBetween xs n bound → n ≤ length xs → i < n → get_or xs i 0 < bound
split_below xs zero bound i rise is l h = absurd (omega (arith, h))
split_below xs (suc n) bound i rise is l h =
    let most : get_or xs i 0 ≤ get_or xs n 0 = rising_below xs rise i n (omega (arith, h)) (omega (arith, l)) in
    let last : get_or xs n 0 < bound = is.below n (omega arith) in
    omega (arith, most, last)

split_above : (xs : List ℕ) (n bound i : ℕ) → IsRising xs → IsBetween xs n bound → n ≤ i → i < length xs → bound ≤ get_or xs i 0
split_above xs n bound i rise is h l =
    let first : bound ≤ get_or xs n 0 = is.above (omega (arith, h, l)) in
    let least : get_or xs n 0 ≤ get_or xs i 0 = rising_below xs rise n i h l in
    omega (arith, first, least)

pub splits : (xs : List ℕ) (n bound : ℕ) → n ≤ length xs → IsRising xs → IsBetween xs n bound → Splits xs n bound
splits xs n bound l rise is = record {
  within = l;
  below = λ i h. split_below xs n bound i rise is l h;
  above = λ i h o. split_above xs n bound i rise is h o;
}
