-- Two lists of the same length, pair by pair.
use Rattle.std.proofs.Common.{◌≡◌, ℕ, zero, suc, ◌+◌, ◌<◌, ◌≤◌, List, [], ◌∷◌, Bool, true, false, refl, sym, ap, ◌∙◌, length, get_or, drop, arith}
use Rattle.std.specs.Prelude.{◌&&◌}
use Rattle.std.specs.Cmp.Lexicographic.{pointwise}
use Rattle.tg_audit.proofs.Lists.{drop_item, drop_all}

first_pair : {A : Type 0} (f : A → A → Bool) (xs ys : List A) (n : ℕ) (x y : A) (b : Bool) → n < length xs → n < length ys → x ≡ get_or xs n x → y ≡ get_or ys n y
    → pointwise f (drop n xs) (drop n ys) ≡ b → (f x y && pointwise f (drop (n + 1) xs) (drop (n + 1) ys)) ≡ b
first_pair {A} f xs ys n x y b h k e g so_far =
    ap (λ (zs : List A). pointwise f zs (y ∷ drop (n + 1) ys)) (sym (drop_item xs n x h e))
    ∙ ap (λ (zs : List A). pointwise f (drop n xs) zs) (sym (drop_item ys n y k g)) ∙ so_far

pub pairs_next : {A : Type 0} (f : A → A → Bool) (xs ys : List A) (n : ℕ) (x y : A) (b : Bool) → n < length xs → n < length ys → x ≡ get_or xs n x → y ≡ get_or ys n y
    → f x y ≡ true → pointwise f (drop n xs) (drop n ys) ≡ b → pointwise f (drop (n + 1) xs) (drop (n + 1) ys) ≡ b
pairs_next f xs ys n x y b h k e g same so_far =
    ap (λ c. c && pointwise f (drop (n + 1) xs) (drop (n + 1) ys)) (sym same) ∙ first_pair f xs ys n x y b h k e g so_far

pub pairs_not : {A : Type 0} (f : A → A → Bool) (xs ys : List A) (n : ℕ) (x y : A) (b : Bool) → n < length xs → n < length ys → x ≡ get_or xs n x → y ≡ get_or ys n y
    → f x y ≡ false → pointwise f (drop n xs) (drop n ys) ≡ b → false ≡ b
pairs_not f xs ys n x y b h k e g other so_far =
    ap (λ c. c && pointwise f (drop (n + 1) xs) (drop (n + 1) ys)) (sym other) ∙ first_pair f xs ys n x y b h k e g so_far

pub pairs_none : {A : Type 0} (f : A → A → Bool) (xs ys : List A) (n : ℕ) (b : Bool) → length xs ≤ n → length ys ≤ n → pointwise f (drop n xs) (drop n ys) ≡ b → true ≡ b
pairs_none {A} f xs ys n b h k so_far =
    ap (λ (zs : List A). pointwise f zs []) (sym (drop_all xs n h)) ∙ ap (λ (zs : List A). pointwise f (drop n xs) zs) (sym (drop_all ys n k)) ∙ so_far

-- an item within the list, whatever stands for one past its end
pub item_is : {A : Type 0} (xs : List A) (n : ℕ) (d e : A) → n < length xs → get_or xs n d ≡ get_or xs n e
item_is [] n d e h = absurd (omega (arith, h))
item_is (x ∷ xs) zero d e h = refl
item_is (x ∷ xs) (suc n) d e h = item_is xs n d e (omega (arith, h))
