-- Numbers of a stripe's positions.
use Rattle.std.proofs.Common.{◌≡◌, ℕ, ◌+◌, ◌-◌, ◌*◌, ◌/◌, ◌%◌, ◌<◌, ◌≤◌, Bool, true, false, nat_le, nat_lt, refl, sym, ap, subst, ◌∙◌, arith}
use Rattle.std.specs.Prelude.{if◌then◌else◌}
use Rattle.std.proofs.lemmas.Nat.{div-add-mod', div-mul-add, le-div, mod_below}
use Rattle.std.proofs.lemmas.Bool.Decides.{nat_tests}
use Rattle.std.proofs.Math.Nat.{div-mul-le_self}

-- how many of the positions f, f + n, .. are below this one
abbrev pub below : ℕ → ℕ → ℕ → ℕ
below f n pos = ((pos - f) + (n - 1)) / n

-- the first at or past it
abbrev pub at_or_past : ℕ → ℕ → ℕ → ℕ
at_or_past f n pos = if nat_le pos f then f else pos + (n - 1 - ((pos - f) + n - 1) % n)

low_at : (pos f : ℕ) → nat_le pos f ≡ true → pos ≤ f
low_at pos f e = grind (arith, nat_tests)

high_at : (pos f : ℕ) → nat_le pos f ≡ false → f < pos
high_at pos f e = grind (arith, nat_tests)

next_if : (b : Bool) (f n pos : ℕ) → 0 < n → nat_le pos f ≡ b →
    (if b then f else pos + (n - 1 - ((pos - f) + n - 1) % n)) ≡ f + below f n pos * n
next_if true f n pos some e =
    let low : pos ≤ f = low_at pos f e in
    let none : (pos - f) + (n - 1) ≡ 0 * n + (n - 1) = omega (arith, low) in
    let short : n - 1 < n = omega (arith, some) in
    let zero_below : below f n pos ≡ 0 = ap (λ (k : ℕ). k / n) none ∙ div-mul-add 0 n (n - 1) short in
    let alone : f ≡ f + 0 * n = omega arith in
    alone ∙ sym (ap (λ (k : ℕ). f + k * n) zero_below)
next_if false f n pos some e =
    let high : f < pos = high_at pos f e in
    let same : (pos - f) + n - 1 ≡ (pos - f) + (n - 1) = omega (arith, some) in
    let split : below f n pos * n + ((pos - f) + (n - 1)) % n ≡ (pos - f) + (n - 1) = div-add-mod' ((pos - f) + (n - 1)) n in
    let short : ((pos - f) + (n - 1)) % n < n = mod_below ((pos - f) + (n - 1)) n some in
    ap (λ (k : ℕ). pos + (n - 1 - k % n)) same ∙ omega (arith, high, some, split, short)

pub next_is : (f n pos : ℕ) → 0 < n → at_or_past f n pos ≡ f + below f n pos * n
next_is f n pos some = next_if (nat_le pos f) f n pos some refl

-- with n - 1 below it, and at it
pub below_at : (f n m : ℕ) → 0 < n → below f n (f + m * n) ≡ m
below_at f n m some =
    let short : n - 1 < n = omega (arith, some) in
    let over : ((f + m * n) - f) + (n - 1) ≡ m * n + (n - 1) = omega arith in
    ap (λ (k : ℕ). k / n) over ∙ div-mul-add m n (n - 1) short

more : (m n : ℕ) → (m + 1) * n ≡ m * n + n
more m n = grind arith

pub below_after : (f n m : ℕ) → 0 < n → below f n (f + m * n + 1) ≡ m + 1
below_after f n m some =
    let once : (m + 1) * n ≡ m * n + n = more m n in
    let over : ((f + m * n + 1) - f) + (n - 1) ≡ (m + 1) * n + 0 = omega (arith, once, some) in
    ap (λ (k : ℕ). k / n) over ∙ div-mul-add (m + 1) n 0 some

pub below_rises : (f n a b : ℕ) → 0 < n → a ≤ b → below f n a ≤ below f n b
below_rises f n a b some low =
    let part : below f n a * n ≤ (a - f) + (n - 1) = div-mul-le_self ((a - f) + (n - 1)) n in
    le-div (below f n a) ((b - f) + (n - 1)) n some (omega (arith, part, low))

-- the first at or past the first at or past a position is that itself
pub next_again : (f n pos : ℕ) → 0 < n → at_or_past f n (at_or_past f n pos) ≡ at_or_past f n pos
next_again f n pos some =
    let m = below f n pos in
    ap (λ (k : ℕ). at_or_past f n k) (next_is f n pos some)
    ∙ next_is f n (f + m * n) some
    ∙ ap (λ (k : ℕ). f + k * n) (below_at f n m some)
    ∙ sym (next_is f n pos some)

-- past the first at or past a position there is one fewer
pub one_fewer : (f n pos end : ℕ) → 0 < n → at_or_past f n pos < end →
    below f n end - below f n pos ≡ (below f n end - below f n (at_or_past f n pos + 1)) + 1
one_fewer f n pos end some short =
    let m = below f n pos in
    let next : below f n (at_or_past f n pos + 1) ≡ m + 1 = ap (λ (k : ℕ). below f n (k + 1)) (next_is f n pos some) ∙ below_after f n m some in
    let high : below f n (at_or_past f n pos + 1) ≤ below f n end = below_rises f n (at_or_past f n pos + 1) end some (omega (arith, short)) in
    omega (arith, next, high)

-- a product with one more
pub one_more : (a b c : ℕ) → a ≡ b + 1 → a * c ≡ b * c + c
one_more a b c e = ap (λ (k : ℕ). k * c) e ∙ more b c

pub product_rises : (a b c : ℕ) → a ≤ b → a * c ≤ b * c
product_rises a b c h = grind arith
