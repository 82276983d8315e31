-- The search for what is missing.
use Rattle.std.proofs.Common.{◌≡◌, ℕ, zero, suc, ◌+◌, ◌-◌, ◌*◌, ◌/◌, ◌%◌, ◌<◌, ◌≤◌, Bool, true, false, List, Option, Some, None, refl, sym, ap, ap₂, ◌∙◌, inl, inr, arith, min}
use Rattle.std.specs.Prelude.{is_some, nat_lt, ◌||◌}
use Rattle.std.proofs.Math.Nat.{div-zero, mul-le-mul_right}
use Rattle.std.proofs.lemmas.Nat.{div-mul-add}
use Rattle.std.proofs.lemmas.Bool.{lt-ltb, le-ltb, cases_lt}
use Rattle.tg_base.specs.declared.cell.Cell.{Cell}
use Rattle.tg_protocol.specs.Words.{cell_at}
use Rattle.tg_protocol.specs.Units.{UnitState, first_missing, how_many, settled_at}
use Rattle.tg_unit.specs.Missing.{missing_from}

small-div : (n k : ℕ) → n < k → n / k ≡ 0
small-div n k lt = let e : 0 * k + n ≡ n = omega arith in ap (λ x. x / k) (sym e) ∙ div-mul-add 0 k n lt

pub none-left : (lo hi step : ℕ) → 1 ≤ step → hi ≤ lo → how_many lo hi step ≡ 0
none-left lo hi step s le = let e : (hi - lo) + (step - 1) ≡ step - 1 = omega arith in ap (λ x. x / step) e ∙ small-div (step - 1) step (omega arith)

one-more-div : (x k : ℕ) → 1 ≤ k → (x + k) / k ≡ suc (x / k)
one-more-div x k s =
    let q : ℕ = x / k in
    let r : ℕ = x % k in
    let parts : k * (x / k) + x % k ≡ x = omega arith in
    let small : x % k < k = omega arith in
    let e : x + k ≡ suc (x / k) * k + x % k = omega arith in
    ap (λ y. y / k) e ∙ div-mul-add (suc (x / k)) k (x % k) small

pub one-more : (lo hi step : ℕ) → 1 ≤ step → lo < hi → how_many lo hi step ≡ suc (how_many (lo + step) hi step)
one-more lo hi step s lt =
    elim (cases_lt hi (lo + step)) [
      | inl past ↦
          let e : (hi - lo) + (step - 1) ≡ (hi - lo - 1) + step = omega arith in
          let f : hi - lo - 1 < step = omega arith in
          ap (λ x. x / step) e ∙ one-more-div (hi - lo - 1) step s ∙ ap suc (small-div (hi - lo - 1) step f ∙ sym (none-left (lo + step) hi step s (omega arith)))
      | inr fits ↦
          let e : (hi - lo) + (step - 1) ≡ ((hi - (lo + step)) + (step - 1)) + step = omega arith in
          ap (λ x. x / step) e ∙ one-more-div ((hi - (lo + step)) + (step - 1)) step s
    ]

first-settled : (s : UnitState) (step n p : ℕ) → settled_at s p ≡ true → first_missing s step (suc n) p ≡ first_missing s step n (p + step)
unfolding first_missing
first-settled s step n p h = ap (λ b. elim b as (λ _. Option ℕ) [ true ↦ first_missing s step n (p + step) | false ↦ Some p ]) h

first-bare : (s : UnitState) (step n p : ℕ) → settled_at s p ≡ false → first_missing s step (suc n) p ≡ Some p
unfolding first_missing
first-bare s step n p h = ap (λ b. elim b as (λ _. Option ℕ) [ true ↦ first_missing s step n (p + step) | false ↦ Some p ]) h

no-more : (s : UnitState) (step p : ℕ) → first_missing s step 0 p ≡ None
unfolding first_missing
no-more s step p = refl

pub gap-none : (s : UnitState) (step hi p : ℕ) → 1 ≤ step → hi ≤ p → missing_from s step hi p ≡ None
gap-none s step hi p one le = ap (λ n. first_missing s step n p) (none-left p hi step one le) ∙ no-more s step p

pub gap-later : (s : UnitState) (step hi p : ℕ) → 1 ≤ step → p < hi → settled_at s p ≡ true → missing_from s step hi (p + step) ≡ missing_from s step hi p
gap-later s step hi p one lt h = sym (ap (λ n. first_missing s step n p) (one-more p hi step one lt) ∙ first-settled s step (how_many (p + step) hi step) p h)

pub gap-here : (s : UnitState) (step hi p : ℕ) → 1 ≤ step → p < hi → settled_at s p ≡ false → missing_from s step hi p ≡ Some p
gap-here s step hi p one lt h = ap (λ n. first_missing s step n p) (one-more p hi step one lt) ∙ first-bare s step (how_many (p + step) hi step) p h

pub is-low : (s : UnitState) (p : ℕ) → p < s.low → settled_at s p ≡ true
is-low s p lt = ap (λ b. b || is_some (cell_at s.cells p)) (lt-ltb p s.low lt)

pub is-held : (s : UnitState) (p : ℕ) → is_some (cell_at s.cells p) ≡ true → settled_at s p ≡ true
is-held s p h = ap (λ b. nat_lt p s.low || b) h ∙ or-true (nat_lt p s.low)
  where
    or-true : (b : Bool) → (b || true) ≡ true
    or-true true = refl
    or-true false = refl

pub is-bare : (s : UnitState) (p : ℕ) → s.low ≤ p → is_some (cell_at s.cells p) ≡ false → settled_at s p ≡ false
is-bare s p le h = ap₂ (λ a b. a || b) (le-ltb p s.low le) h

-- so many steps over what is settled
pub jump : (s : UnitState) (step hi k p : ℕ) → 1 ≤ step → ((j : ℕ) → j < k → (p + j * step < hi) × (settled_at s (p + j * step) ≡ true))
    → missing_from s step hi (p + k * step) ≡ missing_from s step hi p
jump s step hi zero p one h = let e : p + 0 * step ≡ p = omega arith in ap (missing_from s step hi) e
jump s step hi (suc k) p one h =
    let here = h 0 (omega arith) in
    let e : p + suc k * step ≡ (p + step) + k * step = omega arith in
    let f : p + 0 * step ≡ p = omega arith in
    let lt : p < hi = omega (arith, here.0) in
    let settled : settled_at s p ≡ true = ap (settled_at s) (sym f) ∙ here.1 in
    ap (missing_from s step hi) e
    ∙ jump s step hi k (p + step) one (λ j less.
    let next = h (suc j) (omega arith) in
    let g : p + suc j * step ≡ (p + step) + j * step = omega arith in
    (omega (arith, next.0), ap (settled_at s) (sym g) ∙ next.1))
    ∙ gap-later s step hi p one lt settled

-- steps that stay below low are jumped
pub skip : (s : UnitState) (step hi k p : ℕ) → 1 ≤ step → s.low ≤ hi → p + k * step < s.low + step → missing_from s step hi (p + k * step) ≡ missing_from s step hi p
skip s step hi zero p one le lt = let e : p + 0 * step ≡ p = omega arith in ap (missing_from s step hi) e
skip s step hi (suc k) p one le lt =
    let e : p + suc k * step ≡ (p + step) + k * step = omega arith in
    let below : p < s.low = omega arith in
    ap (missing_from s step hi) e ∙ skip s step hi k (p + step) one le (omega arith) ∙ gap-later s step hi p one (omega arith) (is-low s p below)

-- nothing is missing where all is below low
pub all-low : (fuel : ℕ) (s : UnitState) (step hi p : ℕ) → 1 ≤ step → hi ≤ s.low → hi ≤ p + fuel → missing_from s step hi p ≡ None
all-low zero s step hi p one le f = gap-none s step hi p one (omega arith)
all-low (suc fuel) s step hi p one le f =
    elim (cases_lt p hi) [
      | inl lt ↦ sym (gap-later s step hi p one lt (is-low s p (omega arith))) ∙ all-low fuel s step hi (p + step) one le (omega arith)
      | inr past ↦ gap-none s step hi p one past
    ]

-- low itself is reached
pub skip-to : (s : UnitState) (step hi lo low : ℕ) → s.low ≡ low → 1 ≤ step → low ≤ hi → lo ≤ low → (low - lo) % step ≡ 0 → missing_from s step hi low ≡ missing_from s step hi lo
skip-to s step hi lo low is one le from whole =
    let parts : step * ((low - lo) / step) + (low - lo) % step ≡ low - lo = omega arith in
    let e : lo + (low - lo) / step * step ≡ low = omega (arith, parts, whole) in
    sym (ap (missing_from s step hi) e) ∙ skip s step hi ((low - lo) / step) lo one (omega (arith, is)) (omega (arith, e, is))

-- low is passed
pub skip-past : (s : UnitState) (step hi lo low : ℕ) → s.low ≡ low → 1 ≤ step → low ≤ hi → lo ≤ low → 0 < (low - lo) % step
    → missing_from s step hi (low + (step - (low - lo) % step)) ≡ missing_from s step hi lo
skip-past s step hi lo low is one le from part =
    let parts : step * ((low - lo) / step) + (low - lo) % step ≡ low - lo = omega arith in
    let small : (low - lo) % step < step = omega arith in
    let e : lo + suc ((low - lo) / step) * step ≡ low + (step - (low - lo) % step) = omega (arith, parts, small) in
    sym (ap (missing_from s step hi) e) ∙ skip s step hi (suc ((low - lo) / step)) lo one (omega (arith, is)) (omega (arith, e, is, part, small))

-- positions that have cells are jumped, up to the last of these and the step after it
jump-held : (s : UnitState) (step hi p q : ℕ) → 1 ≤ step → p + q * step < hi → ((j : ℕ) → j * step ≤ q * step → is_some (cell_at s.cells (p + j * step)) ≡ true)
    → missing_from s step hi (p + q * step + step) ≡ missing_from s step hi p
jump-held s step hi p q one lt held =
    let e : p + suc q * step ≡ p + q * step + step = omega arith in
    sym (ap (missing_from s step hi) e)
    ∙ jump s step hi (suc q) p one (λ j less.
    let upto : j ≤ q = omega arith in
    let within : j * step ≤ q * step = mul-le-mul_right step upto in
    (omega arith, is-held s (p + j * step) (held j within)))

-- n cells in a row, of which r are short of the end
pub jump-run : (s : UnitState) (cells : List (ℕ × Cell)) (step hi p n r : ℕ) → cells ≡ s.cells → 1 ≤ step → p < hi → r ≡ min n (hi - p) → 1 ≤ r
    → ((j : ℕ) → j < n → is_some (cell_at cells (p + j)) ≡ true) → missing_from s step hi (p + (r - 1) / step * step + step) ≡ missing_from s step hi p
jump-run s cells step hi p n r is one lt least some held =
    let parts : step * ((r - 1) / step) + (r - 1) % step ≡ r - 1 = omega arith in
    let within : (r - 1) / step * step ≤ r - 1 = omega (arith, parts) in
    let short : r ≤ n = omega arith in
    let ends : p + r ≤ hi = omega arith in
    jump-held s step hi p ((r - 1) / step) one (omega arith) (λ j le.
    let less : j * step < n = omega arith in
    ap (λ (zs : List (ℕ × Cell)). is_some (cell_at zs (p + j * step))) (sym is) ∙ held (j * step) less)

-- where no cell comes next, that position is missing
pub gap-bare : (s : UnitState) (cells : List (ℕ × Cell)) (step hi p n : ℕ) → cells ≡ s.cells → 1 ≤ step → p < hi → s.low ≤ p → n ≡ 0 → (n + p % 64 < 64 → cell_at cells (p + n) ≡ None)
    → missing_from s step hi p ≡ Some p
gap-bare s cells step hi p n is one lt low none bare =
    let e : p + n ≡ p = omega arith in
    let small : n + p % 64 < 64 = omega arith in
    let here : cell_at s.cells p ≡ None = ap₂ cell_at (sym is) (sym e) ∙ bare small in
    gap-here s step hi p one lt (is-bare s p low (ap is_some here))

-- a step of 0 takes no position
pub none-by-zero : (s : UnitState) (step hi p : ℕ) → step ≡ 0 → missing_from s step hi p ≡ None
none-by-zero s step hi p is =
    let none : how_many p hi step ≡ 0 = ap (λ k. ((hi - p) + (k - 1)) / k) is ∙ div-zero ((hi - p) + (0 - 1)) in
    ap (λ n. first_missing s step n p) none ∙ no-more s step p
