-- A list is its first item and the rest, and what follows where a call succeeds.
use Rattle.std.specs.Prelude.{remove, slice_get}
use Rattle.std.proofs.Common.{◌≡◌, ℕ, zero, suc, ◌+◌, ◌-◌, ◌≤◌, ◌<◌, List, [], ◌∷◌, length, get_or, take, drop, Some, Result, Ok, Err, IfOk, OnOk, refl, sym, ap, ◌∙◌, arith}

take-whole : {X : Type 0} (xs : List X) (n : ℕ) → length xs ≤ n → take n xs ≡ xs
take-whole [] zero h = refl
take-whole [] (suc n) h = refl
take-whole (x ∷ xs) zero h = absurd (omega (arith, h))
take-whole {X} (x ∷ xs) (suc n) h = ap (λ (ys : List X). x ∷ ys) (take-whole xs n (omega (arith, h)))

pub split_first : {X : Type 0} (xs : List X) (x : X) → 1 ≤ length xs → x ≡ get_or xs 0 x → xs ≡ x ∷ take (length xs - 1) (drop 1 xs)
split_first [] x h e = absurd (omega (arith, h))
split_first {X} (y ∷ ys) x h e =
    let rest : take (length (y ∷ ys) - 1) ys ≡ ys = take-whole ys (length (y ∷ ys) - 1) (omega arith) in
    ap (λ (z : X). z ∷ ys) (sym e) ∙ ap (λ (zs : List X). x ∷ zs) (sym rest)

pub split_none : {X : Type 0} (xs : List X) → length xs ≡ 0 → xs ≡ []
split_none [] e = refl
split_none (x ∷ xs) e = absurd (omega (arith, e))

pub on_ok : {A E P Q : Type 0} (r : Result A E) → (P → Q) → OnOk r P → OnOk r Q
on_ok (Ok x) f h = f h
on_ok (Err e) f h = h

pub if_ok : {A E : Type 0} (P Q : A → Type 0) (r : Result A E) → ((x : A) → P x → Q x) → IfOk r P → IfOk r Q
if_ok P Q (Ok x) f h = f x h
if_ok P Q (Err e) f h = h

-- the last one that is left is taken out
pub remove_last : {X : Type 0} (xs : List X) (n : ℕ) → n < length xs → remove (take (suc n) xs) n ≡ take n xs
remove_last [] n h = absurd (omega (arith, h))
remove_last (x ∷ xs) zero h = refl
remove_last {X} (x ∷ xs) (suc n) h = ap (λ (ys : List X). x ∷ ys) (remove_last xs n (omega (arith, h)))

pub drop_last : {X : Type 0} (xs : List X) (n : ℕ) (x : X) → slice_get (take (suc n) xs) n ≡ Some x → drop n xs ≡ x ∷ drop (suc n) xs
drop_last [] n x e = absurd (none e)
  where
    none : slice_get (take (suc n) []) n ≡ Some x → ⊥
    none h = cc
drop_last {X} (y ∷ ys) zero x e = let same : y ≡ x = some e in ap (λ (z : X). z ∷ ys) same
  where
    some : Some y ≡ Some x → y ≡ x
    some h = cc
drop_last (y ∷ ys) (suc n) x e = drop_last ys n x e

-- what is left begins with the item at its place
drop_next : {X : Type 0} (xs : List X) (n : ℕ) (x : X) → n < length xs → x ≡ get_or xs n x → drop n xs ≡ x ∷ drop (suc n) xs
drop_next [] n x h e = absurd (omega (arith, h))
drop_next {X} (y ∷ ys) zero x h e = ap (λ (z : X). z ∷ ys) (sym e)
drop_next (y ∷ ys) (suc n) x h e = drop_next ys n x (omega (arith, h)) e

pub drop_item : {X : Type 0} (xs : List X) (n : ℕ) (x : X) → n < length xs → x ≡ get_or xs n x → drop n xs ≡ x ∷ drop (n + 1) xs
drop_item {X} xs n x h e =
    let same : suc n ≡ n + 1 = omega arith in
    drop_next xs n x h e ∙ ap (λ (k : ℕ). x ∷ drop k xs) same

pub drop_all : {X : Type 0} (xs : List X) (n : ℕ) → length xs ≤ n → drop n xs ≡ []
drop_all [] zero h = refl
drop_all [] (suc n) h = refl
drop_all (x ∷ xs) zero h = absurd (omega (arith, h))
drop_all (x ∷ xs) (suc n) h = drop_all xs n (omega (arith, h))
