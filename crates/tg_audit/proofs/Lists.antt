-- Items of lists in turn.
use Rattle.std.proofs.Common.{◌≡◌, ℕ, zero, suc, ◌+◌, ◌<◌, ◌≤◌, List, [], ◌∷◌, ◌++◌, Bool, true, false, refl, sym, ap, ◌∙◌, length, get_or, take, drop, arith}
use Rattle.std.specs.Prelude.{◌&&◌, ◌||◌, Option, Some, None}
use Rattle.std.specs.List.{list_any, list_all}
use Rattle.tg_base.specs.declared.fault.Clause.{Clause}
use Rattle.tg_audit.specs.Judging.{or_later, first_fault}

-- what is left begins with the item at its place
drop_next : {X : Type 0} (xs : List X) (n : ℕ) (x : X) → n < length xs → x ≡ get_or xs n x → drop n xs ≡ x ∷ drop (suc n) xs
drop_next [] n x h e = absurd (omega (arith, h))
drop_next {X} (y ∷ ys) zero x h e = ap (λ (z : X). z ∷ ys) (sym e)
drop_next (y ∷ ys) (suc n) x h e = drop_next ys n x (omega (arith, h)) e

pub drop_item : {X : Type 0} (xs : List X) (n : ℕ) (x : X) → n < length xs → x ≡ get_or xs n x → drop n xs ≡ x ∷ drop (n + 1) xs
drop_item {X} xs n x h e =
    let same : suc n ≡ n + 1 = omega arith in
    drop_next xs n x h e ∙ ap (λ (k : ℕ). x ∷ drop k xs) same

pub drop_all : {X : Type 0} (xs : List X) (n : ℕ) → length xs ≤ n → drop n xs ≡ []
drop_all [] zero h = refl
drop_all [] (suc n) h = refl
drop_all (x ∷ xs) zero h = absurd (omega (arith, h))
drop_all (x ∷ xs) (suc n) h = drop_all xs n (omega (arith, h))

take_next : {X : Type 0} (xs : List X) (n : ℕ) (x : X) → n < length xs → x ≡ get_or xs n x → take (suc n) xs ≡ take n xs ++ x ∷ []
take_next [] n x h e = absurd (omega (arith, h))
take_next {X} (y ∷ ys) zero x h e = ap (λ (z : X). z ∷ []) (sym e)
take_next {X} (y ∷ ys) (suc n) x h e = ap (λ (zs : List X). y ∷ zs) (take_next ys n x (omega (arith, h)) e)

pub take_item : {X : Type 0} (xs : List X) (n : ℕ) (x : X) → n < length xs → x ≡ get_or xs n x → take (n + 1) xs ≡ take n xs ++ x ∷ []
take_item {X} xs n x h e =
    let same : n + 1 ≡ suc n = omega arith in
    ap (λ (k : ℕ). take k xs) same ∙ take_next xs n x h e

-- a function of what is left, an item further
pub rest_next : {X Y : Type 0} (F : List X → Y) (xs : List X) (n : ℕ) (x : X) (y : Y) → n < length xs → x ≡ get_or xs n x → F (drop n xs) ≡ y → F (x ∷ drop (n + 1) xs) ≡ y
rest_next F xs n x y h e is = ap F (sym (drop_item xs n x h e)) ∙ is

pub rest_none : {X Y : Type 0} (F : List X → Y) (xs : List X) (n : ℕ) (y : Y) → length xs ≤ n → F (drop n xs) ≡ y → F [] ≡ y
rest_none F xs n y h is = ap F (sym (drop_all xs n h)) ∙ is

-- tests that are equal on each item
pub any_same : {X : Type 0} (p q : X → Bool) → ((x : X) → p x ≡ q x) → (xs : List X) → list_any p xs ≡ list_any q xs
any_same p q f [] = refl
any_same p q f (x ∷ xs) = ap (λ b. b || list_any p xs) (f x) ∙ ap (λ b. q x || b) (any_same p q f xs)

-- The first item with a fault.

pub fault_next : {X : Type 0} (f : List X → X → Option Clause) (xs : List X) (n : ℕ) (x : X) (y : Option (ℕ × Clause)) → n < length xs → x ≡ get_or xs n x
    → f (take n xs) x ≡ None → first_fault f n (take n xs) (drop n xs) ≡ y → first_fault f (n + 1) (take (n + 1) xs) (drop (n + 1) xs) ≡ y
unfolding first_fault
fault_next {X} f xs n x y h e none is =
    ap (λ (zs : List X). first_fault f (n + 1) zs (drop (n + 1) xs)) (take_item xs n x h e)
    ∙ ap (λ (c : Option Clause). or_later n c (first_fault f (n + 1) (take n xs ++ x ∷ []) (drop (n + 1) xs))) (sym none)
    ∙ rest_next (first_fault f n (take n xs)) xs n x y h e is

pub fault_here : {X : Type 0} (f : List X → X → Option Clause) (xs : List X) (n : ℕ) (x : X) (c : Clause) (y : Option (ℕ × Clause)) → n < length xs → x ≡ get_or xs n x
    → f (take n xs) x ≡ Some c → first_fault f n (take n xs) (drop n xs) ≡ y → Some (n, c) ≡ y
unfolding first_fault
fault_here f xs n x c y h e some is =
    ap (λ (d : Option Clause). or_later n d (first_fault f (n + 1) (take n xs ++ x ∷ []) (drop (n + 1) xs))) (sym some)
    ∙ rest_next (first_fault f n (take n xs)) xs n x y h e is

pub fault_none : {X : Type 0} (f : List X → X → Option Clause) (xs : List X) (n : ℕ) (y : Option (ℕ × Clause)) → length xs ≤ n
    → first_fault f n (take n xs) (drop n xs) ≡ y → None ≡ y
unfolding first_fault
fault_none f xs n y h is = rest_none (first_fault f n (take n xs)) xs n y h is

-- A test of what is left, an item further, and none more.

pub all_next : {X : Type 0} (p : X → Bool) (xs : List X) (n : ℕ) (x : X) (y : Bool) → n < length xs → x ≡ get_or xs n x → p x ≡ true → list_all p (drop n xs) ≡ y → list_all p (drop (n + 1) xs) ≡ y
all_next p xs n x y h e pass so_far = ap (λ b. b && list_all p (drop (n + 1) xs)) (sym pass) ∙ rest_next (list_all p) xs n x y h e so_far

pub all_here : {X : Type 0} (p : X → Bool) (xs : List X) (n : ℕ) (x : X) (y : Bool) → n < length xs → x ≡ get_or xs n x → p x ≡ false → list_all p (drop n xs) ≡ y → false ≡ y
all_here p xs n x y h e fail so_far = ap (λ b. b && list_all p (drop (n + 1) xs)) (sym fail) ∙ rest_next (list_all p) xs n x y h e so_far

pub any_next : {X : Type 0} (p : X → Bool) (xs : List X) (n : ℕ) (x : X) (y : Bool) → n < length xs → x ≡ get_or xs n x → p x ≡ false → list_any p (drop n xs) ≡ y → list_any p (drop (n + 1) xs) ≡ y
any_next p xs n x y h e fail so_far = ap (λ b. b || list_any p (drop (n + 1) xs)) (sym fail) ∙ rest_next (list_any p) xs n x y h e so_far

pub any_here : {X : Type 0} (p : X → Bool) (xs : List X) (n : ℕ) (x : X) (y : Bool) → n < length xs → x ≡ get_or xs n x → p x ≡ true → list_any p (drop n xs) ≡ y → true ≡ y
any_here p xs n x y h e pass so_far = ap (λ b. b || list_any p (drop (n + 1) xs)) (sym pass) ∙ rest_next (list_any p) xs n x y h e so_far

pub any_none : {X : Type 0} (p : X → Bool) (xs : List X) (n : ℕ) (y : Bool) → length xs ≤ n → list_any p (drop n xs) ≡ y → false ≡ y
any_none p xs n y h so_far = rest_none (list_any p) xs n y h so_far
