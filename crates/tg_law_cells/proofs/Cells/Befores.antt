-- Which of two numbers stands first in a list.
use Rattle.std.proofs.Common.{◌≡◌, ◌⊎◌, ℕ, zero, suc, ◌<◌, List, [], ◌∷◌, length, refl, sym, inl, inr, arith}
use Rattle.std.specs.Prelude.{slice_index}
use Rattle.tg_law_layouts.proofs.Moves.Members.{Has}

-- w stands at a place, and v at a later one
abbrev pub Before : List ℕ → ℕ → ℕ → Type 0
Before [] w v = ⊥
Before (x ∷ xs) w v = ((w ≡ x) × Has xs v) ⊎ Before xs w v

-- a number at its place
pub record At (xs : List ℕ) (u i : ℕ) : Type 0 where
  pub within : i < length xs
  pub is : slice_index xs i ≡ u

pub has_at : (xs : List ℕ) (i : ℕ) → i < length xs → Has xs (slice_index xs i)
has_at [] i h = absurd (omega (arith, h))
has_at (x ∷ xs) zero h = inl refl
has_at (x ∷ xs) (suc i) h = inr (has_at xs i (omega (arith, h)))

at_more : (x : ℕ) (xs : List ℕ) (u : ℕ) → (i : ℕ) × At xs u i → (i : ℕ) × At (x ∷ xs) u i
at_more x xs u a = (suc a.0, record { within = (let l = a.1.within in omega (arith, l)); is = a.1.is })

pub at_has : (xs : List ℕ) (u : ℕ) → Has xs u → (i : ℕ) × At xs u i
at_has [] u h = absurd h
at_has (x ∷ xs) u (inl e) = (0, record { within = omega arith; is = sym e })
at_has (x ∷ xs) u (inr h) = at_more x xs u (at_has xs u h)

pub before_has : (xs : List ℕ) (w v : ℕ) → Before xs w v → Has xs v
before_has [] w v h = absurd h
before_has (x ∷ xs) w v (inl h) = inr h.1
before_has (x ∷ xs) w v (inr h) = inr (before_has xs w v h)

pub before_at : (xs : List ℕ) (k i : ℕ) → k < i → i < length xs → Before xs (slice_index xs k) (slice_index xs i)
before_at [] k i less h = absurd (omega (arith, h))
before_at (x ∷ xs) k zero less h = absurd (omega (arith, less))
before_at (x ∷ xs) zero (suc i) less h = inl (refl, has_at xs i (omega (arith, h)))
before_at (x ∷ xs) (suc k) (suc i) less h = inr (before_at xs k i (omega (arith, less)) (omega (arith, h)))

-- the place of what stands before
pub record Earlier (xs : List ℕ) (w i : ℕ) : Type 0 where
  pub place : ℕ
  pub less : place < i
  pub is : slice_index xs place ≡ w

earlier_more : (x : ℕ) (xs : List ℕ) (w i : ℕ) → Earlier xs w i → Earlier (x ∷ xs) w (suc i)
earlier_more x xs w i e = record { place = suc e.place; less = (let l = e.less in omega (arith, l)); is = e.is }

pub earlier : (xs : List ℕ) (w v i : ℕ) → Before xs w v → At xs v i → (Before xs v v → ⊥) → Earlier xs w i
earlier [] w v i b a once = absurd b
earlier (x ∷ xs) w v zero (inl b) a once = absurd (once (inl (sym a.is, b.1)))
earlier (x ∷ xs) w v zero (inr b) a once = absurd (once (inl (sym a.is, before_has xs w v b)))
earlier (x ∷ xs) w v (suc i) (inl b) a once = record { place = 0; less = omega arith; is = sym b.0 }
earlier (x ∷ xs) w v (suc i) (inr b) a once = earlier_more x xs w i (earlier xs w v i b (record { within = (let l = a.within in omega (arith, l)); is = a.is }) (λ c. once (inr c)))
