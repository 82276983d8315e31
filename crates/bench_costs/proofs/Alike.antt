-- Lists of which each item is the same, but for the first ones.
use Rattle.std.proofs.Common.{◌≡◌, ℕ, zero, suc, ◌+◌, ◌-◌, ◌*◌, ◌%◌, ◌^◌, ◌<◌, List, [], ◌∷◌, ◌++◌, length, refl, sym, ap, ◌∙◌, arith}
use Rattle.std.proofs.Math.Nat.{suc-mul}
use Rattle.std.specs.Prelude.{replicate, slice_set, slice_index_or}

at_seam : {A : Type 0} (i k : ℕ) (a b d : A) → slice_index_or (replicate i a ++ replicate (suc k) b) i d ≡ b
at_seam zero k a b d = refl
at_seam (suc i) k a b d = at_seam i k a b d

over_seam : {A : Type 0} (i k : ℕ) (a b : A) → slice_set (replicate i a ++ replicate (suc k) b) i a ≡ replicate (suc i) a ++ replicate k b
over_seam zero k a b = refl
over_seam (suc i) k a b = ap (λ xs. a ∷ xs) (over_seam i k a b)

left : (i n : ℕ) → i < n → n - i ≡ suc (n - (i + 1))
left i n h = omega arith

pub next : (i : ℕ) → suc i ≡ i + 1
next i = omega arith

pub item_to_come : {A : Type 0} (x : A) (xs : List A) (i n : ℕ) (a b d : A) → x ≡ slice_index_or xs i d → xs ≡ replicate i a ++ replicate (n - i) b → i < n → x ≡ b
item_to_come x xs i n a b d e f h =
    e ∙ ap (λ us. slice_index_or us i d) f ∙ ap (λ k. slice_index_or (replicate i a ++ replicate k b) i d) (left i n h) ∙ at_seam i (n - (i + 1)) a b d

pub one_more : {A : Type 0} (i n : ℕ) (a b : A) → i < n → slice_set (replicate i a ++ replicate (n - i) b) i a ≡ replicate (i + 1) a ++ replicate (n - (i + 1)) b
one_more i n a b h =
    ap (λ k. slice_set (replicate i a ++ replicate k b) i a) (left i n h) ∙ over_seam i (n - (i + 1)) a b
    ∙ ap (λ j. replicate j a ++ replicate (n - (i + 1)) b) (next i)

pub set_twice : {A : Type 0} (xs : List A) (i : ℕ) (x y : A) → slice_set (slice_set xs i x) i y ≡ slice_set xs i y
set_twice [] i x y = refl
set_twice (z ∷ zs) zero x y = refl
set_twice (z ∷ zs) (suc i) x y = ap (λ ws. z ∷ ws) (set_twice zs i x y)

pub set_long : {A : Type 0} (xs : List A) (i : ℕ) (x : A) → length (slice_set xs i x) ≡ length xs
set_long [] i x = refl
set_long (z ∷ zs) zero x = refl
set_long (z ∷ zs) (suc i) x = ap suc (set_long zs i x)

pub many_long : {A : Type 0} (n : ℕ) (a : A) → length (replicate n a) ≡ n
many_long zero a = refl
many_long (suc n) a = ap suc (many_long n a)

-- sums modulo 2^64

mod_more : (s x h : ℕ) → s ≡ x % 2 ^ 64 → (s + h) % 2 ^ 64 ≡ (x + h) % 2 ^ 64
mod_more s x h e = omega arith

one_times_more : (i h : ℕ) → i * h + h ≡ (i + 1) * h
one_times_more i h = sym (suc-mul i h) ∙ ap (λ j. j * h) (next i)

pub sum_more : (s i h : ℕ) → s ≡ i * h % 2 ^ 64 → (s + h) % 2 ^ 64 ≡ (i + 1) * h % 2 ^ 64
sum_more s i h e = mod_more s (i * h) h e ∙ ap (λ x. x % 2 ^ 64) (one_times_more i h)

many_more : (n x h : ℕ) → n * x + n * h ≡ n * (x + h)
many_more zero x h = omega arith
many_more (suc n) x h =
    let a = suc-mul n x in
    let b = suc-mul n h in
    let c = suc-mul n (x + h) in
    let more = many_more n x h in
    omega arith

pub sum_of_many : (s t n x h : ℕ) → s ≡ n * x % 2 ^ 64 → t ≡ n * h % 2 ^ 64 → (s + t) % 2 ^ 64 ≡ n * (x + h) % 2 ^ 64
sum_of_many s t n x h e f = both s t (n * x) (n * h) e f ∙ ap (λ y. y % 2 ^ 64) (many_more n x h)
  where
    both : (s t x h : ℕ) → s ≡ x % 2 ^ 64 → t ≡ h % 2 ^ 64 → (s + t) % 2 ^ 64 ≡ (x + h) % 2 ^ 64
    both s t x h e f = omega arith
