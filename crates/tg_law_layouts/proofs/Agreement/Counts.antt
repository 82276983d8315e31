-- How many numbers below a bound pass a test, and that two majorities meet.
use Rattle.std.proofs.Common.{◌≡◌, ◌⊎◌, ℕ, zero, suc, ◌+◌, ◌<◌, ◌≤◌, Bool, true, false, refl, subst, inl, inr, arith}
use Rattle.std.specs.Prelude.{if◌then◌else◌}

abbrev pub count : (ℕ → Bool) → ℕ → ℕ
count f zero = 0
count f (suc n) = (if f n then 1 else 0) + count f n

-- a number that passes both
pub record Meet (f g : ℕ → Bool) (n : ℕ) : Type 0 where
  pub at : ℕ
  pub below : at < n
  pub first : f at ≡ true
  pub second : g at ≡ true

meet_more : (f g : ℕ → Bool) (n : ℕ) → Meet f g n → Meet f g (suc n)
meet_more f g n m = let b = m.below in record { at = m.at; below = omega (arith, b); first = m.first; second = m.second }

fewer : (a b : Bool) (x y n : ℕ) → (a ≡ true → b ≡ true → ⊥) → suc n < (if a then 1 else 0) + x + ((if b then 1 else 0) + y) → n < x + y
fewer a b x y n not_both less = grind arith

meet_at : (f g : ℕ → Bool) (n : ℕ) (a b : Bool) → f n ≡ a → g n ≡ b → (n < count f n + count g n → Meet f g n)
    → suc n < (if a then 1 else 0) + count f n + ((if b then 1 else 0) + count g n) → Meet f g (suc n)
meet_at f g n true true p q rest less = record { at = n; below = omega arith; first = p; second = q }
meet_at f g n false b p q rest less = meet_more f g n (rest (fewer false b (count f n) (count g n) n (λ s t. cc) less))
meet_at f g n true false p q rest less = meet_more f g n (rest (fewer true false (count f n) (count g n) n (λ s t. cc) less))

-- two tests that together pass more often than there are numbers pass at one of them
pub majorities_meet : (f g : ℕ → Bool) (n : ℕ) → n < count f n + count g n → Meet f g n
majorities_meet f g zero less = absurd (omega (arith, less))
majorities_meet f g (suc n) less = meet_at f g n (f n) (g n) refl refl (λ t. majorities_meet f g n t) less

-- a test that passes wherever another does

abbrev pub Implies : (ℕ → Bool) → (ℕ → Bool) → Type 0
Implies f g = (k : ℕ) → f k ≡ true → g k ≡ true

more_at : (a b : Bool) (x y : ℕ) → (a ≡ true → b ≡ true) → x ≤ y → (if a then 1 else 0) + x ≤ (if b then 1 else 0) + y
more_at a b x y implied le = grind arith

count_more : (f g : ℕ → Bool) → Implies f g → (n : ℕ) → count f n ≤ count g n
count_more f g implied zero = omega arith
count_more f g implied (suc n) = more_at (f n) (g n) (count f n) (count g n) (implied n) (count_more f g implied n)

one_here : (a b : Bool) (x y : ℕ) → a ≡ false → b ≡ true → x ≤ y → (if a then 1 else 0) + x + 1 ≤ (if b then 1 else 0) + y
one_here a b x y p q le = grind arith

one_there : (a b : Bool) (x y : ℕ) → (a ≡ true → b ≡ true) → x + 1 ≤ y → (if a then 1 else 0) + x + 1 ≤ (if b then 1 else 0) + y
one_there a b x y implied le = grind arith

last_or_before : (k n : ℕ) → k < suc n → (k ≡ n) ⊎ (k < n)
last_or_before k n less = grind arith

-- and at one more number passes more often
pub count_one_more : (f g : ℕ → Bool) → Implies f g → (k : ℕ) → f k ≡ false → g k ≡ true → (n : ℕ) → k < n → count f n + 1 ≤ count g n
count_one_more f g implied k p q zero less = absurd (omega (arith, less))
count_one_more f g implied k p q (suc n) less = by (λ l. count_one_more f g implied k p q n l) (last_or_before k n less)
  where
    by : (k < n → count f n + 1 ≤ count g n) → (k ≡ n) ⊎ (k < n) → count f (suc n) + 1 ≤ count g (suc n)
    by rest (inl e) = one_here (f n) (g n) (count f n) (count g n) (subst (λ i. f i ≡ false) e p) (subst (λ i. g i ≡ true) e q) (count_more f g implied n)
    by rest (inr l) = one_there (f n) (g n) (count f n) (count g n) (implied n) (rest l)
