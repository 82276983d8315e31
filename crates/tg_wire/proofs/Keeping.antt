-- A layout that keeps the rules of layouts, with numbers of its fields' types, has a spelling.
use Rattle.std.proofs.Common.{◌≡◌, ◌≢◌, ℕ, zero, suc, ◌+◌, ◌≤◌, ◌<◌, ◌^◌, ◌-◌, max, min, Bool, true, false, cond, eqb, not, ◌||◌, List, [], ◌∷◌, ◌++◌, length, refl, sym, subst, arith, inl, inr}
use Rattle.std.specs.Prelude.{map, filter, nat_le}
use Rattle.std.specs.List.{list_all}
use Rattle.std.proofs.lemmas.Bool.{leb-true, le-leb, lt-ltb, ltb-true, eqb-true, eqb-false, eq-eqb, ne_eqb, or_cases}
use Rattle.tg_base.specs.declared.layout.Range.{Range}
use Rattle.tg_base.specs.Units.{is_rising, never_falls, has, is_distinct, is_unit, is_chain}
use Rattle.tg_base.specs.Layouts.{Layout, IsLayout, IsWithinTypes, is_range, lo_of, begins_at_zero}
use Rattle.tg_base.proofs.Rules.{layout_rules, chain_rules, within-low, within-high}
use Rattle.tg_codec.specs.Reading.{meets}
use Rattle.tg_codec.specs.Codec.{u8, u16, u64, fit_many}
use Rattle.tg_codec.specs.Owing.{points}
use Rattle.tg_codec.proofs.Laws.{and-left, and-right, both}
use Rattle.tg_wire.specs.Fields.{gone_unit, after_gone, gone, below, chain_unit, after_unit, chain, stripe, after_stripe, stripes, range, after_range, ranges, projection_of}

pub or-first : (a b : Bool) → a ≡ true → (a || b) ≡ true
or-first a b e = rw e refl

pub or-second : (a b : Bool) → b ≡ true → (a || b) ≡ true
or-second true b e = refl
or-second false b e = e

pub within_met : (low high n : ℕ) → low ≤ n → n ≤ high → meets ((low, high) ∷ []) n n ≡ true
within_met low high n p q = let le : max low n ≤ min high n = omega (arith, p, q) in or-first _ _ (le-leb _ _ le)

pub u64_fits : (low high n : ℕ) → low ≤ n → n ≤ high → n < 2 ^ 64 → (u64 ((low, high) ∷ [])).fits n ≡ true
u64_fits low high n p q lt = both _ _ (within_met low high n p q) (lt-ltb n (2 ^ 64) lt)

pub u16_fits : (low high n : ℕ) → low ≤ n → n ≤ high → n < 2 ^ 16 → (u16 ((low, high) ∷ [])).fits n ≡ true
u16_fits low high n p q lt = both _ _ (within_met low high n p q) (lt-ltb n (2 ^ 16) lt)

pub u8_fits : (low high n : ℕ) → low ≤ n → n ≤ high → n < 256 → (u8 ((low, high) ∷ [])).fits n ≡ true
u8_fits low high n p q lt = both _ _ (within_met low high n p q) (lt-ltb n 256 lt)

-- ---- units that rise

abbrev Begins : ℕ → List ℕ → Type 0
Begins low [] = Unit {0}
Begins low (u ∷ us) = low ≤ u

unit-fits : (low u : ℕ) → low ≤ u → is_unit u ≡ true → (gone_unit low).fits u ≡ true
unit-fits low u le e = let lt = ltb-true u 64 e in u16_fits low 63 u le (omega (arith, lt)) (omega (arith, lt))

gone-units : (low : ℕ) (us : List ℕ) → Begins low us → list_all is_unit us ≡ true → is_rising us ≡ true → fit_many gone_unit after_gone (length us) low us ≡ true
unfolding fit_many
gone-units low [] b units rise = refl
gone-units low (u ∷ []) b units rise = both _ _ (unit-fits low u b (and-left _ _ units)) refl
gone-units low (u ∷ v ∷ us) b units rise =
    let lt = ltb-true u v (and-left _ _ rise) in
    both _ _ (unit-fits low u b (and-left _ _ units)) (gone-units (u + 1) (v ∷ us) (omega (arith, lt)) (and-right _ _ units) (and-right _ _ rise))

rising-len : (u : ℕ) (us : List ℕ) → list_all is_unit (u ∷ us) ≡ true → is_rising (u ∷ us) ≡ true → u + length (u ∷ us) ≤ 64
rising-len u [] units rise = let lt = ltb-true u 64 (and-left _ _ units) in omega (arith, lt)
rising-len u (v ∷ us) units rise =
    let lt = ltb-true u v (and-left _ _ rise) in
    let rest : v + length (v ∷ us) ≤ 64 = rising-len v us (and-right _ _ units) (and-right _ _ rise) in
    omega (arith, lt, rest)

units-few : (us : List ℕ) → list_all is_unit us ≡ true → is_rising us ≡ true → length us ≤ 64
units-few [] units rise = omega arith
units-few (u ∷ us) units rise = let len = rising-len u us units rise in omega (arith, len)

begins-zero : (us : List ℕ) → Begins 0 us
begins-zero [] = tt
begins-zero (u ∷ us) = omega arith

pub gone_fits : (us : List ℕ) → list_all is_unit us ≡ true → is_rising us ≡ true → gone.fits us ≡ true
gone_fits us units rise =
    let few = units-few us units rise in
    both _ _ (u8_fits 0 (2 ^ 64 - 1) (length us) (omega arith) (omega (arith, few)) (omega (arith, few))) (gone-units 0 us (begins-zero us) units rise)

-- ---- chains

has-step : (a b c : Bool) → (a || b) ≡ true → (b ≡ true → c ≡ true) → (a || c) ≡ true
has-step true b c e h = refl
has-step false b c e h = h e

has-more : (xs ys : List ℕ) (u : ℕ) → has xs u ≡ true → has (xs ++ ys) u ≡ true
has-more [] ys u e = absurd cc
has-more (x ∷ xs) ys u e = has-step (eqb x u) (has xs u) (has (xs ++ ys) u) e (λ h. has-more xs ys u h)

has-last : (xs : List ℕ) (u : ℕ) → has (xs ++ u ∷ []) u ≡ true
has-last [] u = or-first _ _ (eq-eqb u u refl)
has-last (x ∷ xs) u = or-second (eqb x u) _ (has-last xs u)

below-step : (n u : ℕ) (b : Bool) → eqb n u ≡ b → u < suc n → (u < n → has (below n) u ≡ true) → has (below n ++ n ∷ []) u ≡ true
below-step n u true e lt h = let same = eqb-true n u e in subst (λ k. has (below n ++ n ∷ []) k ≡ true) same (has-last (below n) n)
below-step n u false e lt h = has-more (below n) (n ∷ []) u (h (let other : n ≢ u = eqb-false n u e in omega (arith, lt, other)))

in-below : (n u : ℕ) → u < n → has (below n) u ≡ true
unfolding below
in-below zero u lt = absurd (omega (arith, lt))
in-below (suc n) u lt = below-step n u (eqb n u) refl lt (λ h. in-below n u h)

-- a number of a list that passes a test
kept-later : (q : ℕ → Bool) (x u : ℕ) (rest : List ℕ) (b : Bool) → meets (points (filter q rest)) u u ≡ true → meets (points (cond b (x ∷ filter q rest) (filter q rest))) u u ≡ true
kept-later q x u rest true e = or-second _ _ e
kept-later q x u rest false e = e

kept-step : (q : ℕ → Bool) (x u : ℕ) (rest : List ℕ) (b : Bool) → q x ≡ b → (x ≡ u → b ≡ true) → (has rest u ≡ true → meets (points (filter q rest)) u u ≡ true) → has (x ∷ rest) u ≡ true → meets (points (cond b (x ∷ filter q rest) (filter q rest))) u u ≡ true
kept-step q x u rest b is good more e =
    elim (or_cases (eqb x u) (has rest u) e) [
      | inl here ↦
          let same : x ≡ u = eqb-true x u here in
          let at : max x u ≤ min x u = omega (arith, same) in
          subst (λ c. meets (points (cond c (x ∷ filter q rest) (filter q rest))) u u ≡ true) (sym (good same)) (or-first _ _ (le-leb _ _ at))
      | inr there ↦ kept-later q x u rest b (more there)
    ]

kept : (q : ℕ → Bool) (xs : List ℕ) (u : ℕ) → q u ≡ true → has xs u ≡ true → meets (points (filter q xs)) u u ≡ true
kept q [] u good e = absurd cc
kept q (x ∷ xs) u good e = kept-step q x u xs (q x) refl (λ same. subst (λ k. q k ≡ true) (sym same) good) (kept q xs u good) e

not-false : (b : Bool) → not b ≡ true → b ≡ false
not-false true e = absurd cc
not-false false e = refl

false-not : (b : Bool) → b ≡ false → not b ≡ true
false-not b e = rw e refl

next-fits : (used : List ℕ) (u : ℕ) → is_unit u ≡ true → not (has used u) ≡ true → (chain_unit used).fits u ≡ true
next-fits used u unit new =
    let lt = ltb-true u 64 unit in
    both _ _ (kept (λ v. not (has used v)) (below 64) u new (in-below 64 u lt)) (lt-ltb u (2 ^ 16) (omega (arith, lt)))

neither : (a b : Bool) → (a || b) ≡ false → (a ≡ false) × (b ≡ false)
neither true b e = absurd cc
neither false b e = (refl, e)

other-way : (u v : ℕ) → eqb v u ≡ false → eqb u v ≡ false
other-way u v e = ne_eqb u v (λ same. eqb-false v u e (sym same))

-- units that a chain does not have yet, apart from one more
apart : (used us : List ℕ) (u : ℕ) → has us u ≡ false → list_all (λ v. not (has used v)) us ≡ true → list_all (λ v. not (has (after_unit used u) v)) us ≡ true
apart used [] u no_more news = refl
apart used (v ∷ us) u no_more news =
    let h = neither (eqb v u) (has us u) no_more in
    let new : has used v ≡ false = not-false _ (and-left _ _ news) in
    both _ _ (false-not _ (rw (other-way u v h.0, new) refl)) (apart used us u h.1 (and-right _ _ news))

chain-units : (used us : List ℕ) → list_all is_unit us ≡ true → is_distinct us ≡ true → list_all (λ v. not (has used v)) us ≡ true → fit_many chain_unit after_unit (length us) used us ≡ true
unfolding fit_many
chain-units used [] units distinct news = refl
chain-units used (u ∷ us) units distinct news =
    let alone : has us u ≡ false = not-false _ (and-left _ _ distinct) in
    both _ _ (next-fits used u (and-left _ _ units) (and-left _ _ news))
    (chain-units (after_unit used u) us (and-right _ _ units) (and-right _ _ distinct) (apart used us u alone (and-right _ _ news)))

all-new : (us : List ℕ) → list_all (λ v. not (has [] v)) us ≡ true
all-new [] = refl
all-new (u ∷ us) = all-new us

chain_fits : (us : List ℕ) → is_chain us ≡ true → chain.fits us ≡ true
unfolding chain
chain_fits us e =
    let r = chain_rules us e in
    both _ _ (u8_fits 1 5 (length us) r.some r.few (omega (arith, r.few))) (chain-units [] us r.each_unit r.distinct (all-new us))

-- ---- ranges

stripes-chains : (s : Unit {0}) (cs : List (List ℕ)) → list_all is_chain cs ≡ true → fit_many stripe after_stripe (length cs) s cs ≡ true
unfolding fit_many
stripes-chains s [] e = refl
stripes-chains s (c ∷ cs) e = both _ _ (chain_fits c (and-left _ _ e)) (stripes-chains s cs (and-right _ _ e))

range-fits : (s : ℕ × ℕ) (r : Range) → s.0 ≤ r.lo → r.lo ≤ s.1 → r.lo < 2 ^ 64 → is_range r ≡ true → (range s).fits r ≡ true
unfolding stripes
range-fits s r low high lt e =
    let some = within-low 1 8 (length r.stripes) (and-left _ _ e) in
    let few = within-high 1 8 (length r.stripes) (and-left _ _ e) in
    both _ _ (u64_fits s.0 s.1 r.lo low high lt) (both _ _ (u8_fits 1 8 (length r.stripes) some few (omega (arith, few))) (stripes-chains tt r.stripes (and-right _ _ e)))

abbrev BeginsIn : ℕ × ℕ → List Range → Type 0
BeginsIn s [] = Unit {0}
BeginsIn s (r ∷ rs) = (s.0 ≤ r.lo) × (r.lo ≤ s.1)

ranges-fit : (start : ℕ) (s : ℕ × ℕ) (rs : List Range) → start < 2 ^ 64 → BeginsIn s rs → list_all is_range rs ≡ true → never_falls (map lo_of rs) ≡ true → list_all (λ r. nat_le r.lo start) rs ≡ true → fit_many range (after_range start) (length rs) s rs ≡ true
unfolding fit_many
ranges-fit start s [] lt b good order low = refl
ranges-fit start s (r ∷ []) lt b good order low =
    let le = leb-true r.lo start (and-left _ _ low) in
    both _ _ (range-fits s r b.0 b.1 (omega (arith, le, lt)) (and-left _ _ good)) refl
ranges-fit start s (r ∷ q ∷ rs) lt b good order low =
    let le = leb-true r.lo start (and-left _ _ low) in
    let later : q.lo ≤ start = leb-true q.lo start (and-left _ _ (and-right _ _ low)) in
    let up : r.lo ≤ q.lo = leb-true r.lo q.lo (and-left _ _ order) in
    both _ _ (range-fits s r b.0 b.1 (omega (arith, le, lt)) (and-left _ _ good))
    (ranges-fit start (after_range start s r) (q ∷ rs) lt (up, later) (and-right _ _ good) (and-right _ _ order) (and-right _ _ low))

first-at : (rs : List Range) → begins_at_zero rs ≡ true → BeginsIn (0, 0) rs
first-at [] e = tt
first-at (r ∷ rs) e = let zero : r.lo ≡ 0 = eqb-true r.lo 0 e in (omega (arith, zero), omega (arith, zero))

-- what keeps the rules has a spelling, where its epoch is from the ranges
pub layout_fits : (epochs : List (ℕ × ℕ)) (l : Layout) → IsLayout l → IsWithinTypes l → meets epochs l.epoch l.epoch ≡ true → (projection_of epochs).fits l ≡ true
unfolding projection_of ranges
layout_fits epochs l h types met =
    let r = layout_rules l h in
    let few = r.few in
    let body = ranges-fit l.start (0, 0) l.ranges types.start (first-at l.ranges r.at_zero) r.ranges r.in_order r.below_start in
    let counted = both _ _ (u8_fits 1 32 (length l.ranges) r.some few (omega (arith, few))) body in
    let seq_lt = types.seq in
    let start_lt = types.start in
    let by_lt = types.by in
    both _ _ (both _ _ met (lt-ltb l.epoch (2 ^ 64) types.epoch))
    (both _ _ (u16_fits 0 (2 ^ 64 - 1) l.seq (omega arith) (omega (arith, seq_lt)) seq_lt)
    (both _ _ (u64_fits 0 (2 ^ 64 - 1) l.start (omega arith) (omega (arith, start_lt)) start_lt)
    (both _ _ (u16_fits 0 (2 ^ 64 - 1) l.by (omega arith) (omega (arith, by_lt)) by_lt)
    (both _ _ (gone_fits l.gone r.gone_units r.gone_rises) counted))))
