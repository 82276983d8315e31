-- Positions united.
use Rattle.std.proofs.Common.{◌≡◌, ℕ, ◌<◌, Bool, true, false, cond, ◌||◌, List, [], ◌∷◌, filter, nat_lt, refl, sym, ap, ◌∙◌, inl, inr, arith}
use Rattle.std.specs.Prelude.{◌==◌}
use Rattle.std.specs.List.{list_all}
use Rattle.std.proofs.lemmas.Bool.{cases_eq, cases_lt}
use Rattle.std.proofs.lemmas.Bool.Decides.{nat_tests}
use Rattle.tg_protocol.specs.Words.{has_num, with_num, with_nums}
use Rattle.tg_client_cells.specs.Words.{rises}

-- ---- one position

pub put_before : (x y : ℕ) (ys : List ℕ) → x < y → with_num x (y ∷ ys) ≡ x ∷ y ∷ ys
put_before x y ys h = grind (arith, nat_tests)

pub put_here : (x y : ℕ) (ys : List ℕ) → x ≡ y → with_num x (y ∷ ys) ≡ y ∷ ys
put_here x y ys h = grind (arith, nat_tests)

pub put_past : (x y : ℕ) (ys : List ℕ) → y < x → with_num x (y ∷ ys) ≡ y ∷ with_num x ys
put_past x y ys h = grind (arith, nat_tests)

swap_step : (x y z : ℕ) (zs : List ℕ) → with_num x (with_num y zs) ≡ with_num y (with_num x zs) → with_num x (with_num y (z ∷ zs)) ≡ with_num y (with_num x (z ∷ zs))
swap_step x y z zs h = grind (arith, nat_tests)

pub swap : (x y : ℕ) (zs : List ℕ) → with_num x (with_num y zs) ≡ with_num y (with_num x zs)
swap x y [] = grind (arith, nat_tests)
swap x y (z ∷ zs) = swap_step x y z zs (swap x y zs)

twice_step : (x z : ℕ) (zs : List ℕ) → with_num x (with_num x zs) ≡ with_num x zs → with_num x (with_num x (z ∷ zs)) ≡ with_num x (z ∷ zs)
twice_step x z zs h = grind (arith, nat_tests)

pub twice : (x : ℕ) (zs : List ℕ) → with_num x (with_num x zs) ≡ with_num x zs
twice x [] = grind (arith, nat_tests)
twice x (z ∷ zs) = twice_step x z zs (twice x zs)

-- ---- several

pub put_in : (x : ℕ) (xs ys : List ℕ) → with_nums xs (with_num x ys) ≡ with_num x (with_nums xs ys)
put_in x [] ys = refl
put_in x (z ∷ xs) ys = ap (with_num z) (put_in x xs ys) ∙ swap z x (with_nums xs ys)

join_step : (x y : ℕ) (ys zs : List ℕ) → with_nums (with_num x ys) zs ≡ with_num x (with_nums ys zs) → with_nums (with_num x (y ∷ ys)) zs ≡ with_num x (with_nums (y ∷ ys) zs)
join_step x y ys zs h =
    elim (cases_lt x y) [
      | inl lt ↦ ap (λ (l : List ℕ). with_nums l zs) (put_before x y ys lt)
      | inr le ↦ elim (cases_eq x y) [
        | inl same ↦ ap (λ (l : List ℕ). with_nums l zs) (put_here x y ys same) ∙ sym (twice y (with_nums ys zs)) ∙ ap (λ n. with_num n (with_num y (with_nums ys zs))) (sym same)
        | inr other ↦ ap (λ (l : List ℕ). with_nums l zs) (put_past x y ys (omega (arith, le, other))) ∙ ap (with_num y) h ∙ swap y x (with_nums ys zs)
      ]
    ]

pub join_one : (x : ℕ) (ys zs : List ℕ) → with_nums (with_num x ys) zs ≡ with_num x (with_nums ys zs)
join_one x [] zs = refl
join_one x (y ∷ ys) zs = join_step x y ys zs (join_one x ys zs)

pub join : (xs ys zs : List ℕ) → with_nums (with_nums xs ys) zs ≡ with_nums xs (with_nums ys zs)
join [] ys zs = refl
join (x ∷ xs) ys zs = join_one x (with_nums xs ys) zs ∙ ap (with_num x) (join xs ys zs)

-- ---- which they have

has_step : (p x y : ℕ) (ys : List ℕ) → has_num p (with_num x ys) ≡ ((p == x) || has_num p ys) → has_num p (with_num x (y ∷ ys)) ≡ ((p == x) || has_num p (y ∷ ys))
has_step p x y ys h = grind (arith, nat_tests)

pub has_one : (p x : ℕ) (ys : List ℕ) → has_num p (with_num x ys) ≡ ((p == x) || has_num p ys)
has_one p x [] = refl
has_one p x (y ∷ ys) = has_step p x y ys (has_one p x ys)

or_join : (a b c : Bool) → (a || (b || c)) ≡ ((a || b) || c)
or_join true b c = refl
or_join false b c = refl

pub has_all : (p : ℕ) (xs ys : List ℕ) → has_num p (with_nums xs ys) ≡ (has_num p xs || has_num p ys)
has_all p [] ys = refl
has_all p (x ∷ xs) ys = has_one p x (with_nums xs ys) ∙ ap (λ b. (p == x) || b) (has_all p xs ys) ∙ or_join (p == x) (has_num p xs) (has_num p ys)

-- ---- filtered

pub above_filter : (f : ℕ → Bool) (x : ℕ) (ys : List ℕ) → list_all (λ y. nat_lt x y) ys ≡ true → list_all (λ y. nat_lt x y) (filter f ys) ≡ true
above_filter f x [] h = refl
above_filter f x (y ∷ ys) h = let more : list_all (λ z. nat_lt x z) ys ≡ true → list_all (λ z. nat_lt x z) (filter f ys) ≡ true = above_filter f x ys in grind (arith, nat_tests)

pub put_first : (x : ℕ) (ys : List ℕ) → list_all (λ y. nat_lt x y) ys ≡ true → with_num x ys ≡ x ∷ ys
put_first x [] h = refl
put_first x (y ∷ ys) h = grind (arith, nat_tests)

pub above_less : (x y : ℕ) (ys : List ℕ) → x < y → list_all (λ z. nat_lt y z) ys ≡ true → list_all (λ z. nat_lt x z) ys ≡ true
above_less x y [] lt h = refl
above_less x y (z ∷ ys) lt h = let more : list_all (λ w. nat_lt y w) ys ≡ true → list_all (λ w. nat_lt x w) ys ≡ true = above_less x y ys lt in grind (arith, nat_tests)

pub above_put : (x y : ℕ) (ys : List ℕ) → y < x → list_all (λ z. nat_lt y z) ys ≡ true → list_all (λ z. nat_lt y z) (with_num x ys) ≡ true
above_put x y [] lt h = grind (arith, nat_tests)
above_put x y (z ∷ ys) lt h = let more : list_all (λ w. nat_lt y w) ys ≡ true → list_all (λ w. nat_lt y w) (with_num x ys) ≡ true = above_put x y ys lt in grind (arith, nat_tests)

pub rises_put : (x : ℕ) (ys : List ℕ) → rises ys ≡ true → rises (with_num x ys) ≡ true
rises_put x [] h = refl
rises_put x (y ∷ ys) h =
    let tail : rises ys ≡ true = grind arith in
    let head : list_all (λ z. nat_lt y z) ys ≡ true = grind arith in
    let more : rises (with_num x ys) ≡ true = rises_put x ys tail in
    elim (cases_lt x y) [
      | inl lt ↦ let low : list_all (λ z. nat_lt x z) ys ≡ true = above_less x y ys lt head in ap rises (put_before x y ys lt) ∙ grind (arith, nat_tests)
      | inr le ↦ elim (cases_eq x y) [
        | inl same ↦ ap rises (put_here x y ys same) ∙ h
        | inr other ↦ let up : list_all (λ z. nat_lt y z) (with_num x ys) ≡ true = above_put x y ys (omega (arith, le, other)) head in ap rises (put_past x y ys (omega (arith, le, other))) ∙ grind (arith, nat_tests)
      ]
    ]

pub rises_union : (xs ys : List ℕ) → rises ys ≡ true → rises (with_nums xs ys) ≡ true
rises_union [] ys h = h
rises_union (x ∷ xs) ys h = rises_put x (with_nums xs ys) (rises_union xs ys h)

filter_at : (f : ℕ → Bool) (x y : ℕ) (ys : List ℕ) (b c : Bool) → f x ≡ b → f y ≡ c → x < y → with_num x (filter f ys) ≡ x ∷ filter f ys →
    filter f (x ∷ y ∷ ys) ≡ cond (f x) (with_num x (filter f (y ∷ ys))) (filter f (y ∷ ys))
filter_at f x y ys true true e g lt h = grind (arith, nat_tests)
filter_at f x y ys true false e g lt h = grind (arith, nat_tests)
filter_at f x y ys false c e g lt h = grind (arith, nat_tests)

filter_on : (f : ℕ → Bool) (x y : ℕ) (ys : List ℕ) (b c : Bool) → f x ≡ b → f y ≡ c → y < x → filter f (with_num x ys) ≡ cond (f x) (with_num x (filter f ys)) (filter f ys) →
    filter f (y ∷ with_num x ys) ≡ cond (f x) (with_num x (filter f (y ∷ ys))) (filter f (y ∷ ys))
filter_on f x y ys true true e g lt h = grind (arith, nat_tests)
filter_on f x y ys true false e g lt h = grind (arith, nat_tests)
filter_on f x y ys false true e g lt h = grind (arith, nat_tests)
filter_on f x y ys false false e g lt h = grind (arith, nat_tests)

filter_same : (f : ℕ → Bool) (y : ℕ) (ys : List ℕ) (b : Bool) → f y ≡ b → filter f (y ∷ ys) ≡ cond (f y) (with_num y (filter f (y ∷ ys))) (filter f (y ∷ ys))
filter_same f y ys true e = grind (arith, nat_tests)
filter_same f y ys false e = grind (arith, nat_tests)

pub filter_put : (f : ℕ → Bool) (x : ℕ) (ys : List ℕ) → rises ys ≡ true → filter f (with_num x ys) ≡ cond (f x) (with_num x (filter f ys)) (filter f ys)
filter_put f x [] h = refl
filter_put f x (y ∷ ys) h =
    let tail : rises ys ≡ true = grind arith in
    let head : list_all (λ z. nat_lt y z) ys ≡ true = grind arith in
    elim (cases_lt x y) [
      | inl lt ↦
          ap (λ (l : List ℕ). filter f l) (put_before x y ys lt)
          ∙ filter_at f x y ys (f x) (f y) refl refl lt (put_first x (filter f ys) (above_filter f x ys (above_less x y ys lt head)))
      | inr le ↦ elim (cases_eq x y) [
        | inl same ↦
            ap (λ (l : List ℕ). filter f l) (put_here x y ys same)
            ∙ filter_same f y ys (f y) refl
            ∙ ap (λ n. cond (f n) (with_num n (filter f (y ∷ ys))) (filter f (y ∷ ys))) (sym same)
        | inr other ↦
            let up : y < x = omega (arith, le, other) in
            ap (λ (l : List ℕ). filter f l) (put_past x y ys up) ∙ filter_on f x y ys (f x) (f y) refl refl up (filter_put f x ys tail)
      ]
    ]

filter_turn : (f : ℕ → Bool) (x : ℕ) (xs zs : List ℕ) (b : Bool) → f x ≡ b → cond (f x) (with_num x (with_nums (filter f xs) zs)) (with_nums (filter f xs) zs) ≡ with_nums (filter f (x ∷ xs)) zs
filter_turn f x xs zs true e = grind arith
filter_turn f x xs zs false e = grind arith

pub filter_union : (f : ℕ → Bool) (xs ys : List ℕ) → rises ys ≡ true → filter f (with_nums xs ys) ≡ with_nums (filter f xs) (filter f ys)
filter_union f [] ys h = refl
filter_union f (x ∷ xs) ys h =
    filter_put f x (with_nums xs ys) (rises_union xs ys h)
    ∙ ap (λ (l : List ℕ). cond (f x) (with_num x l) l) (filter_union f xs ys h)
    ∙ filter_turn f x xs (filter f ys) (f x) refl
