-- Positions that rise, as a list keeps them.
use Rattle.std.proofs.Common.{◌≡◌, ℕ, zero, suc, ◌<◌, ◌≤◌, Bool, true, false, cond, List, [], ◌∷◌, ◌++◌, nat_lt, length, take, drop, get_or, Result, Ok, Err, refl, sym, ap, ◌∙◌, inl, inr, arith}
use Rattle.std.specs.Prelude.{nat_le, insert, is_ok, MatchResult}
use Rattle.std.specs.List.{list_all}
use Rattle.std.specs.List.Sorted.{IsBinarySearchResult}
use Rattle.std.specs.Ordering.{nat_cmp}
use Rattle.std.proofs.lemmas.Bool.{cases_lt}
use Rattle.std.proofs.lemmas.Bool.Decides.{nat_tests}
use Rattle.std.proofs.lemmas.List.{append-nil}
use Rattle.std.proofs.lemmas.List.Sorted.{searched}
use Rattle.tg_protocol.specs.Words.{has_num, with_num, with_nums}
use Rattle.tg_client_cells.specs.Words.{rises, below, from, within}
use Rattle.tg_client_cells.proofs.Unions.{put_before, put_here, put_past, put_first, above_filter, above_less, above_put}
use Rattle.tg_client_cells.proofs.Finding.{within_from}

-- ---- by place

over-at : (x : ℕ) (ys : List ℕ) (k : ℕ) → list_all (λ y. nat_lt x y) ys ≡ true → k < length ys → x < get_or ys k 0
over-at x [] k h lt = absurd (omega (arith, lt))
over-at x (y ∷ ys) zero h lt = let one : nat_lt x y ≡ true = grind arith in grind (arith, nat_tests)
over-at x (y ∷ ys) (suc k) h lt = let more : list_all (λ z. nat_lt x z) ys ≡ true = grind arith in over-at x ys k more (omega (arith, lt))

rises-at : (xs : List ℕ) → rises xs ≡ true → (i j : ℕ) → i ≤ j → j < length xs → get_or xs i 0 ≤ get_or xs j 0
rises-at [] h i j le lt = absurd (omega (arith, lt))
rises-at (x ∷ xs) h zero zero le lt = omega arith
rises-at (x ∷ xs) h zero (suc j) le lt =
    let over : list_all (λ y. nat_lt x y) xs ≡ true = grind arith in
    let less : x < get_or xs j 0 = over-at x xs j over (omega (arith, lt)) in
    omega (arith, less)
rises-at (x ∷ xs) h (suc i) zero le lt = absurd (omega (arith, le))
rises-at (x ∷ xs) h (suc i) (suc j) le lt = let rest : rises xs ≡ true = grind arith in rises-at xs rest i j (omega (arith, le)) (omega (arith, lt))

-- where a position stands, or where it would
abbrev pub Places : List ℕ → ℕ → Result ℕ ℕ → Type 0
Places xs x r = MatchResult r (λ i. (i < length xs) × (get_or xs i 0 ≡ x)) (λ i. (i ≤ length xs) × ((k : ℕ) → k < i → get_or xs k 0 < x) × ((k : ℕ) → i ≤ k → k < length xs → x < get_or xs k 0))

pub places : (xs : List ℕ) (x : ℕ) (r : Result ℕ ℕ) → rises xs ≡ true → IsBinarySearchResult (λ y. nat_cmp y x) xs r → Places xs x r
places xs x r h by = searched xs x r by (rises-at xs h)

-- ---- a position that is there

has-at : (xs : List ℕ) (x i : ℕ) → i < length xs → get_or xs i 0 ≡ x → has_num x xs ≡ true
has-at [] x i lt is = absurd (omega (arith, lt))
has-at (y ∷ ys) x zero lt is = grind (arith, nat_tests)
has-at (y ∷ ys) x (suc i) lt is = let more : has_num x ys ≡ true = has-at ys x i (omega (arith, lt)) is in grind (arith, nat_tests)

put-at : (xs : List ℕ) (x i : ℕ) → rises xs ≡ true → i < length xs → get_or xs i 0 ≡ x → with_num x xs ≡ xs
put-at [] x i h lt is = absurd (omega (arith, lt))
put-at (y ∷ ys) x zero h lt is = put_here x y ys (sym is)
put-at (y ∷ ys) x (suc i) h lt is =
    let over : list_all (λ z. nat_lt y z) ys ≡ true = grind arith in
    let rest : rises ys ≡ true = grind arith in
    let less : y < get_or ys i 0 = over-at y ys i over (omega (arith, lt)) in
    put_past x y ys (omega (arith, less, is)) ∙ ap (λ (l : List ℕ). y ∷ l) (put-at ys x i rest (omega (arith, lt)) is)

-- ---- and one that isn't

lacks-at : (xs : List ℕ) (x : ℕ) → ((k : ℕ) → k < length xs → get_or xs k 0 ≡ x → ⊥) → has_num x xs ≡ false
lacks-at [] x h = refl
lacks-at (y ∷ ys) x h =
    let other : y ≡ x → ⊥ = h 0 (omega arith) in
    let more : has_num x ys ≡ false = lacks-at ys x (λ k lt. h (suc k) (omega (arith, lt))) in
    grind (arith, nat_tests)

insert-at : (xs : List ℕ) (x i : ℕ) → i ≤ length xs → ((k : ℕ) → k < i → get_or xs k 0 < x) → ((k : ℕ) → i ≤ k → k < length xs → x < get_or xs k 0) → insert xs i x ≡ with_num x xs
insert-at [] x zero le before after = refl
insert-at [] x (suc i) le before after = absurd (omega (arith, le))
insert-at (y ∷ ys) x zero le before after = let less : x < y = after 0 (omega arith) (omega arith) in sym (put_before x y ys less)
insert-at (y ∷ ys) x (suc i) le before after =
    let less : y < x = before 0 (omega arith) in
    ap (λ (l : List ℕ). y ∷ l) (insert-at ys x i (omega (arith, le)) (λ k lt. before (suc k) (omega (arith, lt))) (λ k a b. after (suc k) (omega (arith, a)) (omega (arith, b))))
    ∙ sym (put_past x y ys less)

pub has_by : (xs : List ℕ) (x : ℕ) (r : Result ℕ ℕ) → Places xs x r → is_ok r ≡ has_num x xs
has_by xs x (Ok i) p = sym (has-at xs x i p.0 p.1)
has_by xs x (Err i) p = sym (lacks-at xs x (λ k lt is. elim (cases_lt k i) [
  | inl below ↦ let less = p.1 k below in omega (arith, less, is)
  | inr above ↦ let more = p.2 k above lt in omega (arith, more, is)
]))

pub put_same : (xs : List ℕ) (x i : ℕ) → rises xs ≡ true → Places xs x (Ok i) → xs ≡ with_num x xs
put_same xs x i h p = sym (put-at xs x i h p.0 p.1)

pub put_new : (xs : List ℕ) (x i : ℕ) → Places xs x (Err i) → insert xs i x ≡ with_num x xs
put_new xs x i p = insert-at xs x i p.0 p.1 p.2

-- ---- those below a position, and those from it on

none-below : (xs : List ℕ) (x : ℕ) → ((k : ℕ) → k < length xs → x ≤ get_or xs k 0) → below x xs ≡ []
none-below [] x h = refl
none-below (y ∷ ys) x h =
    let one : x ≤ y = h 0 (omega arith) in
    let more : below x ys ≡ [] = none-below ys x (λ k lt. h (suc k) (omega (arith, lt))) in
    grind (arith, nat_tests)

all-from : (xs : List ℕ) (x : ℕ) → ((k : ℕ) → k < length xs → x ≤ get_or xs k 0) → from x xs ≡ xs
all-from [] x h = refl
all-from (y ∷ ys) x h =
    let one : x ≤ y = h 0 (omega arith) in
    let more : from x ys ≡ ys = all-from ys x (λ k lt. h (suc k) (omega (arith, lt))) in
    grind (arith, nat_tests)

split-at : (xs : List ℕ) (x i : ℕ) → i ≤ length xs → ((k : ℕ) → k < i → get_or xs k 0 < x) → ((k : ℕ) → i ≤ k → k < length xs → x ≤ get_or xs k 0) → (take i xs ≡ below x xs) × (drop i xs ≡ from x xs)
split-at [] x zero le before after = (refl, refl)
split-at [] x (suc i) le before after = absurd (omega (arith, le))
split-at (y ∷ ys) x zero le before after =
    let all = λ (k : ℕ) (lt : k < length (y ∷ ys)). after k (omega arith) lt in
    (sym (none-below (y ∷ ys) x all), sym (all-from (y ∷ ys) x all))
split-at (y ∷ ys) x (suc i) le before after =
    let less : y < x = before 0 (omega arith) in
    let more = split-at ys x i (omega (arith, le)) (λ k lt. before (suc k) (omega (arith, lt))) (λ k a b. after (suc k) (omega (arith, a)) (omega (arith, b))) in
    let first : take i ys ≡ below x ys = more.0 in
    let rest : drop i ys ≡ from x ys = more.1 in
    (grind (arith, nat_tests), grind (arith, nat_tests))

-- the place of a search
abbrev pub Splits : List ℕ → ℕ → ℕ → Type 0
Splits xs x i = (i ≤ length xs) × (take i xs ≡ below x xs) × (drop i xs ≡ from x xs)

less-at : (xs : List ℕ) (k i : ℕ) → rises xs ≡ true → k < i → i < length xs → get_or xs k 0 < get_or xs i 0
less-at [] k i h lt in_range = absurd (omega (arith, in_range))
less-at (y ∷ ys) k zero h lt in_range = absurd (omega (arith, lt))
less-at (y ∷ ys) zero (suc i) h lt in_range = let over : list_all (λ z. nat_lt y z) ys ≡ true = grind arith in over-at y ys i over (omega (arith, in_range))
less-at (y ∷ ys) (suc k) (suc i) h lt in_range = let rest : rises ys ≡ true = grind arith in less-at ys k i rest (omega (arith, lt)) (omega (arith, in_range))

pub found_split : (xs : List ℕ) (x i : ℕ) → rises xs ≡ true → Places xs x (Ok i) → Splits xs x i
found_split xs x i h p =
    let le : i ≤ length xs = omega (arith, p.0) in
    let split = split-at xs x i le
    (λ k below. let less = less-at xs k i h below p.0 in omega (arith, less, p.1))
    (λ k above lt. let up = rises-at xs h i k above lt in omega (arith, up, p.1)) in
    (le, split.0, split.1)

pub lacking_split : (xs : List ℕ) (x i : ℕ) → Places xs x (Err i) → Splits xs x i
lacking_split xs x i p =
    let split = split-at xs x i p.0 p.1 (λ k le lt. let more = p.2 k le lt in omega (arith, more)) in
    (p.0, split.0, split.1)

pub rises_below : (x : ℕ) (xs : List ℕ) → rises xs ≡ true → rises (below x xs) ≡ true
rises_below x [] h = refl
rises_below x (y ∷ ys) h =
    let over : list_all (λ z. nat_lt y z) ys ≡ true = grind arith in
    let rest : rises ys ≡ true = grind arith in
    by (nat_lt y x) (above_filter (λ p. nat_lt p x) y ys over) (rises_below x ys rest)
  where
    by : (b : Bool) → list_all (λ z. nat_lt y z) (below x ys) ≡ true → rises (below x ys) ≡ true → rises (cond b (y ∷ below x ys) (below x ys)) ≡ true
    by true over more = rw over more
    by false over more = more

rises-from : (x : ℕ) (xs : List ℕ) → rises xs ≡ true → rises (from x xs) ≡ true
rises-from x [] h = refl
rises-from x (y ∷ ys) h =
    let over : list_all (λ z. nat_lt y z) ys ≡ true = grind arith in
    let rest : rises ys ≡ true = grind arith in
    by (nat_le x y) (above_filter (λ p. nat_le x p) y ys over) (rises-from x ys rest)
  where
    by : (b : Bool) → list_all (λ z. nat_lt y z) (from x ys) ≡ true → rises (from x ys) ≡ true → rises (cond b (y ∷ from x ys) (from x ys)) ≡ true
    by true over more = rw over more
    by false over more = more

pub rises_within : (low high : ℕ) (xs : List ℕ) → rises xs ≡ true → rises (within low high xs) ≡ true
rises_within low high xs h = ap rises (within_from low high xs) ∙ rises-from low (below high xs) (rises_below high xs h)

-- ---- two that rise, put together

above-union : (x : ℕ) (xs ys : List ℕ) → list_all (λ z. nat_lt x z) xs ≡ true → list_all (λ z. nat_lt x z) ys ≡ true → list_all (λ z. nat_lt x z) (with_nums xs ys) ≡ true
above-union x [] ys h k = k
above-union x (y ∷ xs) ys h k =
    let less : x < y = grind (arith, nat_tests) in
    let rest : list_all (λ z. nat_lt x z) xs ≡ true = grind arith in
    above_put y x (with_nums xs ys) less (above-union x xs ys rest k)

past : (y : ℕ) (xs ys : List ℕ) → list_all (λ z. nat_lt y z) xs ≡ true → with_nums xs (y ∷ ys) ≡ y ∷ with_nums xs ys
past y [] ys h = refl
past y (x ∷ xs) ys h =
    let less : y < x = grind (arith, nat_tests) in
    let rest : list_all (λ z. nat_lt y z) xs ≡ true = grind arith in
    ap (with_num x) (past y xs ys rest) ∙ put_past x y (with_nums xs ys) less

pub union_low : (x y : ℕ) (xs ys : List ℕ) → x < y → rises (x ∷ xs) ≡ true → rises (y ∷ ys) ≡ true → with_nums (x ∷ xs) (y ∷ ys) ≡ x ∷ with_nums xs (y ∷ ys)
union_low x y xs ys lt h k =
    let over : list_all (λ z. nat_lt x z) xs ≡ true = grind arith in
    let more : list_all (λ z. nat_lt y z) ys ≡ true = grind arith in
    let up : list_all (λ z. nat_lt x z) ys ≡ true = above_less x y ys lt more in
    let all : list_all (λ z. nat_lt x z) (y ∷ ys) ≡ true = grind (arith, nat_tests) in
    put_first x (with_nums xs (y ∷ ys)) (above-union x xs (y ∷ ys) over all)

pub union_same : (x y : ℕ) (xs ys : List ℕ) → x ≡ y → rises (x ∷ xs) ≡ true → with_nums (x ∷ xs) (y ∷ ys) ≡ x ∷ with_nums xs ys
union_same x y xs ys same h =
    let over : list_all (λ z. nat_lt x z) xs ≡ true = grind arith in
    ap (λ n. with_nums (x ∷ xs) (n ∷ ys)) (sym same) ∙ ap (with_num x) (past x xs ys over) ∙ put_here x x (with_nums xs ys) refl

pub union_high : (x y : ℕ) (xs ys : List ℕ) → y < x → rises (x ∷ xs) ≡ true → with_nums (x ∷ xs) (y ∷ ys) ≡ y ∷ with_nums (x ∷ xs) ys
union_high x y xs ys lt h =
    let over : list_all (λ z. nat_lt x z) xs ≡ true = grind arith in
    let up : list_all (λ z. nat_lt y z) xs ≡ true = above_less y x xs lt over in
    let all : list_all (λ z. nat_lt y z) (x ∷ xs) ≡ true = grind (arith, nat_tests) in
    past y (x ∷ xs) ys all

pub alone : (xs : List ℕ) → rises xs ≡ true → with_nums xs [] ≡ xs
alone [] h = refl
alone (x ∷ xs) h =
    let over : list_all (λ z. nat_lt x z) xs ≡ true = grind arith in
    let rest : rises xs ≡ true = grind arith in
    ap (with_num x) (alone xs rest) ∙ put_first x xs over

-- ---- the lowest of two lists

no_length : (xs : List ℕ) → length xs ≡ 0 → xs ≡ []
no_length [] e = refl
no_length (x ∷ xs) e = absurd (omega (arith, e))

rest_rises : (x : ℕ) (xs : List ℕ) → rises (x ∷ xs) ≡ true → rises xs ≡ true
rest_rises x xs h = grind arith

pub left_rises : (all : List ℕ) (x : ℕ) (xs : List ℕ) → all ≡ x ∷ xs → rises all ≡ true → rises xs ≡ true
left_rises all x xs e h = rest_rises x xs (ap rises (sym e) ∙ h)

module _ (left right : List ℕ) where
  pub without_left : length left ≡ 0 → rises right ≡ true → with_nums right left ≡ left ++ right
  without_left e h = let none : left ≡ [] = no_length left e in ap (with_nums right) none ∙ alone right h ∙ ap (λ (l : List ℕ). l ++ right) (sym none)

  pub without_right : length right ≡ 0 → with_nums right left ≡ left ++ right
  without_right e = let none : right ≡ [] = no_length right e in ap (λ (l : List ℕ). with_nums l left) none ∙ sym (append-nil left) ∙ ap (λ (l : List ℕ). left ++ l) (sym none)

  module _ (x y : ℕ) (xs ys : List ℕ) (l : left ≡ x ∷ xs) (r : right ≡ y ∷ ys) where
    both : with_nums right left ≡ with_nums (y ∷ ys) (x ∷ xs)
    both = ap (λ (m : List ℕ). with_nums m left) r ∙ ap (with_nums (y ∷ ys)) l

    pub left_first : x < y → rises right ≡ true → with_nums right left ≡ x ∷ with_nums right xs
    left_first lt h = both ∙ union_high y x ys xs lt (ap rises (sym r) ∙ h) ∙ ap (λ (m : List ℕ). x ∷ with_nums m xs) (sym r)

    pub right_first : y < x → rises left ≡ true → rises right ≡ true → with_nums right left ≡ y ∷ with_nums ys left
    right_first lt h k = both ∙ union_low y x ys xs lt (ap rises (sym r) ∙ k) (ap rises (sym l) ∙ h) ∙ ap (λ (m : List ℕ). y ∷ with_nums ys m) (sym l)

    pub first_twice : y ≡ x → rises right ≡ true → with_nums right left ≡ y ∷ with_nums ys xs
    first_twice same h = both ∙ union_same y x ys xs same (ap rises (sym r) ∙ h)
