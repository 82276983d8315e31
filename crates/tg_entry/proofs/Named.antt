-- Writes that name exactly the streams leave none without a write, in whatever order they stand.
use Rattle.std.proofs.Common.{◌≡◌, ℕ, suc, ◌<◌, ◌≤◌, true, false, cond, eqb, List, [], ◌∷◌, length, refl, subst, inl, inr, arith}
use Rattle.std.specs.Prelude.{not, filter, max, min}
use Rattle.std.proofs.lemmas.Bool.{eqb-true, ltb-true, eq-eqb, ne_eqb, le-leb, cases_Bool, or_cases, or_left, or_right, both_ways, not-true, not_from_false}
use Rattle.tg_base.specs.Units.{has, is_distinct, is_rising}
use Rattle.tg_codec.specs.Reading.{meets}
use Rattle.tg_codec.specs.Owing.{points}
use Rattle.tg_codec.proofs.Laws.{and-left, and-right, both}

-- the names but one
abbrev pub without : ℕ → List ℕ → List ℕ
without k xs = filter (λ x. not (eqb x k)) xs

-- each name of xs is in ys
abbrev pub Covers : List ℕ → List ℕ → Type 0
Covers ys xs = (n : ℕ) → has xs n ≡ true → has ys n ≡ true

pub meets_points : (xs : List ℕ) (n : ℕ) → has xs n ≡ true → meets (points xs) n n ≡ true
meets_points [] n e = absurd cc
meets_points (x ∷ xs) n e = elim (or_cases (eqb x n) (has xs n) e) [
  | inl same ↦ let is : x ≡ n = eqb-true _ _ same in or_left _ _ (le-leb (max x n) (min x n) (omega (arith, is)))
  | inr rest ↦ or_right _ _ (meets_points xs n rest)
]

-- what stays of a list without a name was there, and isn't that name
pub stays : (xs : List ℕ) (k n : ℕ) → has (without k xs) n ≡ true → (has xs n ≡ true) × (eqb k n ≡ false)
stays [] k n e = absurd cc
stays (x ∷ xs) k n e = elim (eqb x k) as (λ b. eqb x k ≡ b → has (cond (not b) (x ∷ without k xs) (without k xs)) n ≡ true → (has (x ∷ xs) n ≡ true) × (eqb k n ≡ false)) [
  | true ↦ λ is h. let rest = stays xs k n h in (or_right _ _ rest.0, rest.1)
  | false ↦ λ is h. elim (or_cases (eqb x n) (has (without k xs) n) h) [
    | inl same ↦ (or_left _ _ same, let eq : x ≡ n = eqb-true _ _ same in grind (arith, eq, is))
    | inr more ↦ let rest = stays xs k n more in (or_right _ _ rest.0, rest.1)
  ]
] refl e

-- who isn't in a list isn't in it without a name
absent-stays : (xs : List ℕ) (k n : ℕ) → has xs n ≡ false → has (without k xs) n ≡ false
absent-stays xs k n e = elim (cases_Bool (has (without k xs) n)) [
  | inl here ↦ absurd (both_ways _ e (stays xs k n here).0)
  | inr gone ↦ gone
]

pub distinct-stays : (xs : List ℕ) (k : ℕ) → is_distinct xs ≡ true → is_distinct (without k xs) ≡ true
distinct-stays [] k e = refl
distinct-stays (x ∷ xs) k e = elim (eqb x k) as (λ b. is_distinct (cond (not b) (x ∷ without k xs) (without k xs)) ≡ true) [
  | true ↦ distinct-stays xs k (and-right _ _ e)
  | false ↦ both _ _ (not_from_false _ (absent-stays xs k x (not-true _ (and-left _ _ e)))) (distinct-stays xs k (and-right _ _ e))
]

without-absent : (xs : List ℕ) (k : ℕ) → has xs k ≡ false → length (without k xs) ≡ length xs
without-absent [] k e = refl
without-absent (x ∷ xs) k e = grind (arith, without-absent xs k)

-- a name stands once at most
pub one_less : (xs : List ℕ) (k : ℕ) → is_distinct xs ≡ true → length xs ≤ suc (length (without k xs))
one_less [] k e = omega arith
one_less (x ∷ xs) k e = elim (eqb x k) as (λ b. eqb x k ≡ b → suc (length xs) ≤ suc (length (cond (not b) (x ∷ without k xs) (without k xs)))) [
  | true ↦ λ is.
      let same : x ≡ k = eqb-true _ _ is in
      let none : has xs x ≡ false = not-true _ (and-left _ _ e) in
      let len = without-absent xs k (subst (λ m. has xs m ≡ false) same none) in
      omega (arith, len)
  | false ↦ λ is. let less = one_less xs k (and-right _ _ e) in omega (arith, less)
] refl

-- distinct names that all stand in a list are no more than it has
pub few_names : (ys xs : List ℕ) → is_distinct xs ≡ true → Covers ys xs → length xs ≤ length ys
few_names [] [] d h = omega arith
few_names [] (x ∷ xs) d h = let here : has (x ∷ xs) x ≡ true = or_left (eqb x x) (has xs x) (eq-eqb x x refl) in absurd (both_ways _ refl (h x here))
few_names (y ∷ ys) xs d h =
    let still : Covers ys (without y xs) = λ n e.
    let stay = stays xs y n e in
    elim (or_cases (eqb y n) (has ys n) (h n stay.0)) [
      | inl same ↦ absurd (both_ways _ stay.1 same)
      | inr rest ↦ rest
    ] in
    let less = few_names ys (without y xs) (distinct-stays xs y d) still in
    let one = one_less xs y d in
    omega (arith, less, one)

-- what rises has no number twice
not_above : (xs : List ℕ) (low n : ℕ) → n ≤ low → is_rising (low ∷ xs) ≡ true → has xs n ≡ false
not_above [] low n le e = refl
not_above (x ∷ xs) low n le e =
    let lt : low < x = ltb-true _ _ (and-left _ _ e) in
    let here : eqb x n ≡ false = ne_eqb _ _ (λ same. omega (arith, same, lt, le)) in
    let rest = not_above xs x n (omega (arith, lt, le)) (and-right _ _ e) in
    rw (here, rest) refl

pub rising_distinct : (xs : List ℕ) → is_rising xs ≡ true → is_distinct xs ≡ true
rising_distinct [] e = refl
rising_distinct (x ∷ []) e = refl
rising_distinct (x ∷ y ∷ ys) e =
    both _ _ (not_from_false _ (not_above (y ∷ ys) x x (omega arith) e)) (rising_distinct (y ∷ ys) (and-right _ _ e))
