-- The units of a layout: rising, and few.
use Rattle.std.proofs.Common.{◌≡◌, ℕ, suc, ◌+◌, ◌<◌, ◌≤◌, true, get_or, List, [], ◌∷◌, ◌++◌, length, take, drop, ◌-◌, zero, refl, sym, ap, subst, ◌∙◌, arith}
use Rattle.std.specs.Prelude.{insert}
use Rattle.std.specs.List.{list_all, concat}
use Rattle.std.proofs.lemmas.Bool.{ltb-true}
use Rattle.std.proofs.lemmas.Bool.Decides.{nat_tests}
use Rattle.std.proofs.lemmas.List.Folds.{list_all-append}
use Rattle.tg_base.specs.declared.layout.Range.{Range}
use Rattle.tg_base.specs.Units.{is_unit, is_rising, is_chain}
use Rattle.tg_base.specs.Layouts.{Layout, IsLayout, is_range}
use Rattle.tg_base.proofs.Exact.{and-left, and-right, both}
use Rattle.tg_base.proofs.Rules.{layout_rules, chain_rules}
use Rattle.tg_proj.specs.Next.{rising_with, rising_place}
use Rattle.tg_proj.specs.Refusals.{units_of as units_in}
use Rattle.tg_proj.proofs.Gone.{put_there, put_new, gone_units, gone_rises}
use Rattle.tg_proj.proofs.Chains.{first_chain}
use Rattle.tg_protocol.specs.Words.{with_num, with_nums}

-- A number more in a rising list.

num_same : (u : ℕ) (xs : List ℕ) → with_num u xs ≡ rising_with xs u
num_same u [] = refl
num_same u (x ∷ xs) = grind (arith, nat_tests, num_same u xs)

pub num_there : (xs : List ℕ) (u : ℕ) → rising_place xs u < length xs → get_or xs (rising_place xs u) 0 ≡ u → xs ≡ with_num u xs
num_there xs u h e = put_there xs u h e ∙ sym (num_same u xs)

pub num_new : (xs : List ℕ) (u : ℕ) → (rising_place xs u < length xs → get_or xs (rising_place xs u) 0 ≡ u → ⊥) → insert xs (rising_place xs u) u ≡ with_num u xs
num_new xs u h = put_new xs u h ∙ sym (num_same u xs)

pub nums_either : (xs ys zs : List ℕ) → with_nums (xs ++ ys) zs ≡ with_nums xs (with_nums ys zs)
nums_either [] ys zs = refl
nums_either (x ∷ xs) ys zs = ap (with_num x) (nums_either xs ys zs)

-- The first chain and the others, and likewise of ranges.

pub chains_step : (xs : List (List ℕ)) (x zs : List ℕ) → 1 ≤ length xs → x ≡ get_or xs 0 x →
    with_nums (concat xs) zs ≡ with_nums x (with_nums (concat (take (length xs - 1) (drop 1 xs))) zs)
chains_step xs x zs h e = ap (λ ys. with_nums ys zs) (first_chain xs x h e) ∙ nums_either x (concat (take (length xs - 1) (drop 1 xs))) zs

take_whole : (rs : List Range) (n : ℕ) → n ≡ length rs → take n rs ≡ rs
take_whole [] zero h = refl
take_whole [] (suc n) h = absurd (omega arith)
take_whole (r ∷ rs) zero h = absurd (omega arith)
take_whole (r ∷ rs) (suc n) h = ap (λ ss. r ∷ ss) (take_whole rs n (omega arith))

first_range : (rs : List Range) (r : Range) → 1 ≤ length rs → r ≡ get_or rs 0 r → units_in rs ≡ concat r.stripes ++ units_in (take (length rs - 1) (drop 1 rs))
first_range [] r h e = absurd (omega arith)
first_range (s ∷ ss) r h e =
    let rest : take (length (s ∷ ss) - 1) ss ≡ ss = take_whole ss (length (s ∷ ss) - 1) (omega arith) in
    ap (λ (x : Range). concat x.stripes ++ units_in ss) (sym e) ∙ ap (λ xs. concat r.stripes ++ units_in xs) (sym rest)

pub ranges_step : (rs : List Range) (r : Range) (zs : List ℕ) → 1 ≤ length rs → r ≡ get_or rs 0 r →
    with_nums (units_in rs) zs ≡ with_nums (concat r.stripes) (with_nums (units_in (take (length rs - 1) (drop 1 rs))) zs)
ranges_step rs r zs h e = ap (λ ys. with_nums ys zs) (first_range rs r h e) ∙ nums_either (concat r.stripes) (units_in (take (length rs - 1) (drop 1 rs))) zs

-- Few units.

num_rises : (u : ℕ) (xs : List ℕ) → is_rising xs ≡ true → is_rising (with_num u xs) ≡ true
num_rises u xs h = subst (λ ys. is_rising ys ≡ true) (sym (num_same u xs)) (gone_rises xs (u ∷ []) h)

num_units : (u : ℕ) (xs : List ℕ) → is_unit u ≡ true → list_all is_unit xs ≡ true → list_all is_unit (with_num u xs) ≡ true
num_units u xs e h = subst (λ ys. list_all is_unit ys ≡ true) (sym (num_same u xs)) (gone_units xs (u ∷ []) h (both _ _ e refl))

nums_rise : (xs : List ℕ) → is_rising (with_nums xs []) ≡ true
nums_rise [] = refl
nums_rise (x ∷ xs) = num_rises x (with_nums xs []) (nums_rise xs)

nums_units : (xs : List ℕ) → list_all is_unit xs ≡ true → list_all is_unit (with_nums xs []) ≡ true
nums_units [] h = refl
nums_units (x ∷ xs) h = num_units x (with_nums xs []) (and-left _ _ h) (nums_units xs (and-right _ _ h))

few_from : (x : ℕ) (xs : List ℕ) → is_rising (x ∷ xs) ≡ true → list_all is_unit (x ∷ xs) ≡ true → x + length (x ∷ xs) ≤ 64
few_from x [] r u =
    let below : x < 64 = ltb-true x 64 (and-left _ _ u) in
    omega (arith, below)
few_from x (y ∷ ys) r u =
    let less : x < y = ltb-true x y (and-left _ _ r) in
    let rest : y + length (y ∷ ys) ≤ 64 = few_from y ys (and-right _ _ r) (and-right _ _ u) in
    omega (arith, less, rest)

few : (xs : List ℕ) → is_rising xs ≡ true → list_all is_unit xs ≡ true → length xs ≤ 64
few [] r u = omega arith
few (x ∷ xs) r u = let most : x + length (x ∷ xs) ≤ 64 = few_from x xs r u in omega (arith, most)

-- the units of a layout

chains_units : (cs : List (List ℕ)) → list_all is_chain cs ≡ true → list_all is_unit (concat cs) ≡ true
chains_units [] h = refl
chains_units (c ∷ cs) h = list_all-append is_unit c (concat cs) ∙ both _ _ (chain_rules c (and-left _ _ h)).each_unit (chains_units cs (and-right _ _ h))

ranges_units : (rs : List Range) → list_all is_range rs ≡ true → list_all is_unit (units_in rs) ≡ true
ranges_units [] h = refl
ranges_units (r ∷ rs) h =
    list_all-append is_unit (concat r.stripes) (units_in rs) ∙ both _ _ (chains_units r.stripes (and-right _ _ (and-left _ _ h))) (ranges_units rs (and-right _ _ h))

pub few_units : (q : Layout) → IsLayout q → length (with_nums (units_in q.ranges) []) ≤ 64
few_units q h =
    let units = ranges_units q.ranges (layout_rules q h).ranges in
    few (with_nums (units_in q.ranges) []) (nums_rise (units_in q.ranges)) (nums_units (units_in q.ranges) units)
