-- A list is its first item and the rest, and what follows where a call succeeds.
use Rattle.std.proofs.Common.{◌≡◌, ℕ, zero, suc, ◌-◌, ◌^◌, ◌≤◌, ◌<◌, List, [], ◌∷◌, length, get_or, take, drop, Result, Ok, Err, OnOk, refl, sym, ap, ◌∙◌, arith}
use Rattle.tg_wire.specs.Types.{AreLong}

take-whole : {X : Type 0} (xs : List X) (n : ℕ) → length xs ≤ n → take n xs ≡ xs
take-whole [] zero h = refl
take-whole [] (suc n) h = refl
take-whole (x ∷ xs) zero h = absurd (omega (arith, h))
take-whole {X} (x ∷ xs) (suc n) h = ap (λ (ys : List X). x ∷ ys) (take-whole xs n (omega (arith, h)))

pub split_first : {X : Type 0} (xs : List X) (x : X) → 1 ≤ length xs → x ≡ get_or xs 0 x → xs ≡ x ∷ take (length xs - 1) (drop 1 xs)
split_first [] x h e = absurd (omega (arith, h))
split_first {X} (y ∷ ys) x h e =
    let rest : take (length (y ∷ ys) - 1) ys ≡ ys = take-whole ys (length (y ∷ ys) - 1) (omega arith) in
    ap (λ (z : X). z ∷ ys) (sym e) ∙ ap (λ (zs : List X). x ∷ zs) (sym rest)

pub on_ok : {A E P Q : Type 0} (r : Result A E) → (P → Q) → OnOk r P → OnOk r Q
on_ok (Ok x) f h = f h
on_ok (Err e) f h = h

pub all_long : (ps : List ℕ) → ((i : ℕ) → get_or ps i 0 < 2 ^ 64) → AreLong ps
all_long [] h = tt
all_long (p ∷ ps) h = (h zero, all_long ps (λ i. h (suc i)))
