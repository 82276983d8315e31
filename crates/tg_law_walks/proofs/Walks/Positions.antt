-- Positions by stream.
use Rattle.std.proofs.Common.{◌≡◌, ◌⊎◌, ℕ, ◌+◌, ◌<◌, ◌≤◌, List, [], ◌∷◌, Bool, true, false, refl, sym, ap, ◌∙◌, subst, inl, inr, arith, filter, cond}
use Rattle.std.specs.Prelude.{nat_lt, nat_le, ◌==◌, if◌then◌else◌}
use Rattle.std.proofs.lemmas.Bool.Decides.{nat_tests}
use Rattle.tg_base.specs.declared.ids.Oid.{Oid}
use Rattle.tg_kind.specs.Meaning.{Meaning}
use Rattle.tg_protocol.specs.Words.{with_num, with_nums}
use Rattle.tg_base.specs.Orders.{oid_eq, oid_lt}
use Rattle.tg_protocol.specs.Clients.{positions_in, positions_of, with_positions}
use Rattle.tg_law_walks.specs.Walks.Streams.{rises}
use Rattle.tg_law_walks.specs.Walks.Rounds.{AreAbove, AreRising}
use Rattle.tg_law_walks.proofs.Walks.Members.{Has, and_both, both_and, lt_of, of_le, same_oid, oid_itself, same_number}

-- Two rising lists as one.

num_left : (x : ℕ) (ys : List ℕ) → Has (with_num x ys) x
num_left x [] = inl refl
num_left x (y ∷ ys) = by (nat_lt x y) (x == y) refl (num_left x ys)
  where
    by : (b c : Bool) → (x == y) ≡ c → Has (with_num x ys) x → Has (if b then x ∷ y ∷ ys else (if c then y ∷ ys else y ∷ with_num x ys)) x
    by true c e rest = inl refl
    by false true e rest = inl (same_number x y e)
    by false false e rest = inr rest

num_right : (x : ℕ) (ys : List ℕ) (q : ℕ) → Has ys q → Has (with_num x ys) q
num_right x [] q i = absurd i
num_right x (y ∷ ys) q i = by (nat_lt x y) (x == y) i (λ j. num_right x ys q j)
  where
    on : (q ≡ y) ⊎ Has ys q → (Has ys q → Has (with_num x ys) q) → Has (y ∷ with_num x ys) q
    on (inl e) rest = inl e
    on (inr j) rest = inr (rest j)

    by : (b c : Bool) → Has (y ∷ ys) q → (Has ys q → Has (with_num x ys) q) → Has (if b then x ∷ y ∷ ys else (if c then y ∷ ys else y ∷ with_num x ys)) q
    by true c j rest = inr j
    by false true j rest = j
    by false false j rest = on j rest

num_split : (x : ℕ) (ys : List ℕ) (q : ℕ) → Has (with_num x ys) q → (q ≡ x) ⊎ Has ys q
num_split x [] q (inl e) = inl e
num_split x [] q (inr i) = absurd i
num_split x (y ∷ ys) q i = by (nat_lt x y) (x == y) i (λ j. num_split x ys q j)
  where
    back : (q ≡ x) ⊎ Has ys q → (q ≡ x) ⊎ Has (y ∷ ys) q
    back (inl e) = inl e
    back (inr j) = inr (inr j)

    by : (b c : Bool) → Has (if b then x ∷ y ∷ ys else (if c then y ∷ ys else y ∷ with_num x ys)) q → (Has (with_num x ys) q → (q ≡ x) ⊎ Has ys q) → (q ≡ x) ⊎ Has (y ∷ ys) q
    by true c (inl e) rest = inl e
    by true c (inr j) rest = inr j
    by false true j rest = inr j
    by false false (inl e) rest = inr (inl e)
    by false false (inr j) rest = back (rest j)

pub nums_left : (xs ys : List ℕ) (q : ℕ) → Has xs q → Has (with_nums xs ys) q
nums_left [] ys q i = absurd i
nums_left (x ∷ xs) ys q (inl e) = subst (λ n. Has (with_num x (with_nums xs ys)) n) (sym e) (num_left x (with_nums xs ys))
nums_left (x ∷ xs) ys q (inr i) = num_right x (with_nums xs ys) q (nums_left xs ys q i)

pub nums_right : (xs ys : List ℕ) (q : ℕ) → Has ys q → Has (with_nums xs ys) q
nums_right [] ys q i = i
nums_right (x ∷ xs) ys q i = num_right x (with_nums xs ys) q (nums_right xs ys q i)

pub nums_split : (xs ys : List ℕ) (q : ℕ) → Has (with_nums xs ys) q → Has xs q ⊎ Has ys q
nums_split [] ys q i = inr i
nums_split (x ∷ xs) ys q i = by (num_split x (with_nums xs ys) q i) (λ j. nums_split xs ys q j)
  where
    rest : Has xs q ⊎ Has ys q → Has (x ∷ xs) q ⊎ Has ys q
    rest (inl j) = inl (inr j)
    rest (inr j) = inr j

    by : (q ≡ x) ⊎ Has (with_nums xs ys) q → (Has (with_nums xs ys) q → Has xs q ⊎ Has ys q) → Has (x ∷ xs) q ⊎ Has ys q
    by (inl e) more = inl (inl e)
    by (inr j) more = rest (more j)

-- They rise.

pub rises_less : (low less : ℕ) (xs : List ℕ) → less ≤ low → rises low xs ≡ true → rises less xs ≡ true
rises_less low less [] le h = refl
rises_less low less (x ∷ xs) le h =
    let p = and_both (nat_le low x) (rises (x + 1) xs) h in let q : low ≤ x = le_of low x p.0 in both_and (nat_le less x) (rises (x + 1) xs) (of_le less x (omega (arith, q, le))) p.1
  where
    le_of : (a b : ℕ) → nat_le a b ≡ true → a ≤ b
    le_of a b e = grind arith

with_rises : (low x : ℕ) (ys : List ℕ) → low ≤ x → rises low ys ≡ true → rises low (with_num x ys) ≡ true
with_rises low x [] le h = both_and (nat_le low x) true (of_le low x le) refl
with_rises low x (y ∷ ys) le h = by (nat_lt x y) refl (x == y) refl (λ more. with_rises (y + 1) x ys more (and_both (nat_le low y) (rises (y + 1) ys) h).1)
  where
    apart : (a b : ℕ) → nat_lt a b ≡ false → (a == b) ≡ false → b + 1 ≤ a
    apart a b e f = grind arith

    by : (b : Bool) → nat_lt x y ≡ b → (c : Bool) → (x == y) ≡ c → (y + 1 ≤ x → rises (y + 1) (with_num x ys) ≡ true)
        → rises low (if b then x ∷ y ∷ ys else (if c then y ∷ ys else y ∷ with_num x ys)) ≡ true
    by true e c f rest =
        both_and (nat_le low x) (rises (x + 1) (y ∷ ys)) (of_le low x le)
        (both_and (nat_le (x + 1) y) (rises (y + 1) ys) (let less = lt_of x y e in of_le (x + 1) y (omega (arith, less))) (and_both (nat_le low y) (rises (y + 1) ys) h).1)
    by false e true f rest = h
    by false e false f rest = both_and (nat_le low y) (rises (y + 1) (with_num x ys)) (and_both (nat_le low y) (rises (y + 1) ys) h).0 (rest (apart x y e f))

pub all_rise : (xs ys : List ℕ) → rises 0 ys ≡ true → rises 0 (with_nums xs ys) ≡ true
all_rise [] ys h = h
all_rise (x ∷ xs) ys h = with_rises 0 x (with_nums xs ys) (omega arith) (all_rise xs ys h)

pub rises_filter : (f : ℕ → Bool) (low : ℕ) (xs : List ℕ) → rises low xs ≡ true → rises low (filter f xs) ≡ true
rises_filter f low [] h = refl
rises_filter f low (x ∷ xs) h = by (f x) (rises_filter f (x + 1) xs (and_both (nat_le low x) (rises (x + 1) xs) h).1)
  where
    first : low ≤ x
    first = let p = (and_both (nat_le low x) (rises (x + 1) xs) h).0 in grind arith

    by : (b : Bool) → rises (x + 1) (filter f xs) ≡ true → rises low (cond b (x ∷ filter f xs) (filter f xs)) ≡ true
    by true rest = both_and (nat_le low x) (rises (x + 1) (filter f xs)) (and_both (nat_le low x) (rises (x + 1) xs) h).0 rest
    by false rest = let le = first in rises_less (x + 1) low (filter f xs) (omega (arith, le)) rest

pub has_filter : (f : ℕ → Bool) (xs : List ℕ) (q : ℕ) → Has xs q → f q ≡ true → Has (filter f xs) q
has_filter f [] q i t = absurd i
has_filter f (x ∷ xs) q (inl e) t = subst (λ (b : Bool). Has (cond b (x ∷ filter f xs) (filter f xs)) q) (sym (ap f (sym e) ∙ t)) (inl e)
has_filter f (x ∷ xs) q (inr i) t = by (f x) (has_filter f xs q i t)
  where
    by : (b : Bool) → Has (filter f xs) q → Has (cond b (x ∷ filter f xs) (filter f xs)) q
    by true j = inr j
    by false j = j

pub filter_passes : (f : ℕ → Bool) (xs : List ℕ) (q : ℕ) → Has (filter f xs) q → f q ≡ true
filter_passes f [] q i = absurd i
filter_passes f (x ∷ xs) q i = by (f x) refl i (λ j. filter_passes f xs q j)
  where
    by : (b : Bool) → f x ≡ b → Has (cond b (x ∷ filter f xs) (filter f xs)) q → (Has (filter f xs) q → f q ≡ true) → f q ≡ true
    by true e (inl s) rest = ap f s ∙ e
    by true e (inr j) rest = rest j
    by false e j rest = rest j

-- By stream.

module _ (m : Meaning) where
  pub none_above : (o p : Oid) (xs : List (Oid × List ℕ)) → o.0 ≤ p.0 → AreAbove m p xs → positions_in m xs o ≡ []
  none_above o p [] le h = refl
  none_above o p (x ∷ xs) le h =
      let first = h.0 in
      ap (λ (b : Bool). if b then x.1 else positions_in m xs o) (apart x.0.0 o.0 (omega (arith, first, le))) ∙ none_above o p xs le h.1
    where
      apart : (a b : ℕ) → b < a → (a == b) ≡ false
      apart a b less = grind (arith, nat_tests)

  -- the positions of a stream that has more
  pub more_in : (xs : List (Oid × List ℕ)) (o : Oid) (ps : List ℕ) → AreRising m xs → positions_in m (with_positions m xs o ps) o ≡ with_nums ps (positions_in m xs o)
  more_in [] o ps h = ap (λ (b : Bool). if b then with_nums ps [] else []) (oid_itself o)
  more_in (x ∷ xs) o ps h = by (oid_eq x.0 o) refl (oid_lt o x.0) refl (λ k. more_in xs o ps k)
    where
      none : oid_lt o x.0 ≡ true → positions_in m xs o ≡ []
      none t = let less = lt_of o.0 x.0.0 t in none_above o x.0 xs (omega (arith, less)) h.0

      by : (b : Bool) → oid_eq x.0 o ≡ b → (c : Bool) → oid_lt o x.0 ≡ c → (AreRising m xs → positions_in m (with_positions m xs o ps) o ≡ with_nums ps (positions_in m xs o))
          → positions_in m (if b then (x.0, with_nums ps x.1) ∷ xs else (if c then (o, with_nums ps []) ∷ x ∷ xs else x ∷ with_positions m xs o ps)) o ≡ with_nums ps (if b then x.1 else positions_in m xs o)
      by true e c f rest = ap (λ (d : Bool). if d then with_nums ps x.1 else positions_in m xs o) e
      by false e true f rest = ap (λ (d : Bool). if d then with_nums ps [] else positions_in m (x ∷ xs) o) (oid_itself o) ∙ ap (with_nums ps) (sym (none f))
      by false e false f rest = ap (λ (d : Bool). if d then x.1 else positions_in m (with_positions m xs o ps) o) e ∙ rest h.1

  -- and of another
  pub other_in : (xs : List (Oid × List ℕ)) (o : Oid) (ps : List ℕ) (p : Oid) → oid_eq o p ≡ false → positions_in m (with_positions m xs o ps) p ≡ positions_in m xs p
  other_in [] o ps p a = ap (λ (b : Bool). if b then with_nums ps [] else []) a
  other_in (x ∷ xs) o ps p a = by (oid_eq x.0 o) refl (oid_lt o x.0) (other_in xs o ps p a)
    where
      apart : oid_eq x.0 o ≡ true → oid_eq x.0 p ≡ false
      apart e = ap (λ (y : Oid). oid_eq y p) (same_oid x.0 o e) ∙ a

      by : (b : Bool) → oid_eq x.0 o ≡ b → (c : Bool) → positions_in m (with_positions m xs o ps) p ≡ positions_in m xs p
          → positions_in m (if b then (x.0, with_nums ps x.1) ∷ xs else (if c then (o, with_nums ps []) ∷ x ∷ xs else x ∷ with_positions m xs o ps)) p ≡ (if oid_eq x.0 p then x.1 else positions_in m xs p)
      by true e c rest = ap (λ (d : Bool). if d then with_nums ps x.1 else positions_in m xs p) (apart e) ∙ ap (λ (d : Bool). if d then x.1 else positions_in m xs p) (sym (apart e))
      by false e true rest = ap (λ (d : Bool). if d then with_nums ps [] else positions_in m (x ∷ xs) p) a
      by false e false rest = ap (λ (ys : List ℕ). if oid_eq x.0 p then x.1 else ys) rest

  above_more : (o p : Oid) (ps : List ℕ) (xs : List (Oid × List ℕ)) → p.0 < o.0 → AreAbove m p xs → AreAbove m p (with_positions m xs o ps)
  above_more o p ps [] less h = (less, tt)
  above_more o p ps (x ∷ xs) less h = by (oid_eq x.0 o) (oid_lt o x.0) (above_more o p ps xs less h.1)
    where
      by : (b c : Bool) → AreAbove m p (with_positions m xs o ps) → AreAbove m p (if b then (x.0, with_nums ps x.1) ∷ xs else (if c then (o, with_nums ps []) ∷ x ∷ xs else x ∷ with_positions m xs o ps))
      by true c rest = (h.0, h.1)
      by false true rest = (less, (h.0, h.1))
      by false false rest = (h.0, rest)

  above_less : (o p : Oid) (xs : List (Oid × List ℕ)) → p.0 ≤ o.0 → AreAbove m o xs → AreAbove m p xs
  above_less o p [] le h = tt
  above_less o p (x ∷ xs) le h = let first = h.0 in (omega (arith, first, le), above_less o p xs le h.1)

  pub more_rising : (o : Oid) (ps : List ℕ) (xs : List (Oid × List ℕ)) → AreRising m xs → AreRising m (with_positions m xs o ps)
  more_rising o ps [] h = (tt, tt)
  more_rising o ps (x ∷ xs) h = by (oid_eq x.0 o) refl (oid_lt o x.0) refl (more_rising o ps xs h.1)
    where
      apart : (a b : ℕ) → (a == b) ≡ false → nat_lt b a ≡ false → a < b
      apart a b e f = grind (arith, nat_tests)

      by : (b : Bool) → oid_eq x.0 o ≡ b → (c : Bool) → oid_lt o x.0 ≡ c → AreRising m (with_positions m xs o ps)
          → AreRising m (if b then (x.0, with_nums ps x.1) ∷ xs else (if c then (o, with_nums ps []) ∷ x ∷ xs else x ∷ with_positions m xs o ps))
      by true e c f rest = h
      by false e true f rest = let less = lt_of o.0 x.0.0 f in ((less, above_less x.0 o xs (omega (arith, less)) h.0), h)
      by false e false f rest = (above_more o x.0 ps xs (apart x.0.0 o.0 e f) h.0, rest)

  pub in_positions : (xs : List (Oid × List ℕ)) (os : List Oid) (o : Oid) (q : ℕ) → Has os o → Has (positions_in m xs o) q → Has (positions_of m xs os) q
  in_positions xs [] o q i j = absurd i
  in_positions xs (p ∷ os) o q (inl e) j = nums_left (positions_in m xs p) (positions_of m xs os) q (subst (λ y. Has (positions_in m xs y) q) e j)
  in_positions xs (p ∷ os) o q (inr i) j = nums_right (positions_in m xs p) (positions_of m xs os) q (in_positions xs os o q i j)

  pub positions_rise : (xs : List (Oid × List ℕ)) (os : List Oid) → rises 0 (positions_of m xs os) ≡ true
  positions_rise xs [] = refl
  positions_rise xs (o ∷ os) = all_rise (positions_in m xs o) (positions_of m xs os) (positions_rise xs os)
