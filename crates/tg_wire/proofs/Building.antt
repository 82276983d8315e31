-- What is read as a layout keeps the rules of layouts.
use Rattle.std.proofs.Common.{◌≡◌, ℕ, zero, suc, ◌≤◌, max, min, Bool, true, false, cond, eqb, not, ◌||◌, List, [], ◌∷◌, length, Result, Ok, Err, refl, subst, arith, inl, inr}
use Rattle.std.specs.Prelude.{map, filter, nat_le, IfOk}
use Rattle.std.specs.List.{list_all}
use Rattle.std.proofs.lemmas.Bool.{false≢true, leb-true, le-leb, lt-ltb, eqb-true, eq-eqb, or_cases, not-true, both_ways}
use Rattle.tg_base.specs.declared.layout.Range.{Range}
use Rattle.tg_base.specs.Units.{is_rising, never_falls, has, is_distinct, is_unit, is_chain}
use Rattle.tg_base.specs.Layouts.{Layout, IsLayout, is_range, lo_of, begins_at_zero}
use Rattle.tg_base.proofs.Rules.{IsLayout-from, is_chain-from, is_within-from}
use Rattle.tg_codec.specs.declared.fault.ReadFault.{ReadFault}
use Rattle.tg_codec.specs.Reading.{Gives, meets}
use Rattle.tg_codec.specs.Codec.{Codec, u8, u64, many, fit_many}
use Rattle.tg_codec.specs.Owing.{points}
use Rattle.tg_codec.specs.Streams.{any}
use Rattle.tg_codec.proofs.Laws.{IsBytes, IsExact, and-left, and-right, both}
use Rattle.tg_codec.proofs.Shapes.{met_within, dep_first, dep_second}
use Rattle.tg_wire.specs.Fields.{gone_unit, after_gone, gone, below, chain_unit, after_unit, chain, stripe, after_stripe, stripes, range, after_range, ranges}

-- what is read fits
pub read_fits : {A Y : Type 0} {c : Codec A} → IsExact c → (bytes : List ℕ) (r : Result Y ReadFault) (view : Y → A × List ℕ) → IsBytes bytes → Gives view r (c.read bytes) → IfOk r (λ y. c.fits (view y).0 ≡ true)
read_fits law bytes (Ok y) view b h = (law.takes bytes (view y).0 (view y).1 b h).1
read_fits law bytes (Err e) view b h = tt

-- ---- units that rise

unit-within : (low u : ℕ) → (gone_unit low).fits u ≡ true → (low ≤ u) × (u ≤ 63)
unit-within low u e = met_within low 63 u (and-left _ _ e)

as-unit : (low u : ℕ) → (gone_unit low).fits u ≡ true → is_unit u ≡ true
as-unit low u e = let h = unit-within low u e in lt-ltb u 64 (omega (arith, h.1))

gone-units : (n low : ℕ) (us : List ℕ) → fit_many gone_unit after_gone n low us ≡ true → list_all is_unit us ≡ true
unfolding fit_many
gone-units zero low [] e = refl
gone-units zero low (u ∷ us) e = absurd cc
gone-units (suc n) low [] e = refl
gone-units (suc n) low (u ∷ us) e = both _ _ (as-unit low u (and-left _ _ e)) (gone-units n (after_gone low u) us (and-right _ _ e))

gone-rise : (n low : ℕ) (us : List ℕ) → fit_many gone_unit after_gone n low us ≡ true → is_rising us ≡ true
unfolding fit_many
gone-rise n low [] e = refl
gone-rise n low (u ∷ []) e = refl
gone-rise zero low (u ∷ v ∷ us) e = absurd cc
gone-rise (suc zero) low (u ∷ v ∷ us) e = absurd (false≢true (and-right _ _ e))
gone-rise (suc (suc n)) low (u ∷ v ∷ us) e =
    let later = and-right ((gone_unit low).fits u) (fit_many gone_unit after_gone (suc n) (after_gone low u) (v ∷ us)) e in
    let h = unit-within (after_gone low u) v (and-left _ _ later) in
    both _ _ (lt-ltb u v (omega (arith, h.0))) (gone-rise (suc n) (after_gone low u) (v ∷ us) later)

gone-fit : (us : List ℕ) → gone.fits us ≡ true → fit_many gone_unit after_gone (length us) 0 us ≡ true
gone-fit us e = dep_second (u8 any) (λ n. many gone_unit after_gone n 0) (length us, us) e

-- ---- chains

kept-step : (q r : ℕ → Bool) (x : ℕ) (rest : List ℕ) (v : ℕ) (b : Bool) → q x ≡ b → r x ≡ true → (meets (points rest) v v ≡ true → (q v ≡ true) × (r v ≡ true))
    → meets (points (cond b (x ∷ rest) rest)) v v ≡ true → (q v ≡ true) × (r v ≡ true)
kept-step q r x rest v true is all more e =
    elim (or_cases (nat_le (max x v) (min x v)) (meets (points rest) v v) e) [
      | inl le ↦ let below : max x v ≤ min x v = leb-true _ _ le in
          let same : x ≡ v = omega (arith, below) in
          (subst (λ n. q n ≡ true) same is, subst (λ n. r n ≡ true) same all)
      | inr met ↦ more met
    ]
kept-step q r x rest v false is all more e = more e

-- a number from those that pass a test
kept : (q r : ℕ → Bool) (xs : List ℕ) (v : ℕ) → list_all r xs ≡ true → meets (points (filter q xs)) v v ≡ true → (q v ≡ true) × (r v ≡ true)
kept q r [] v all e = absurd cc
kept q r (x ∷ xs) v all e = kept-step q r x (filter q xs) v (q x) refl (and-left _ _ all) (λ met. kept q r xs v (and-right _ _ all) met) e

all_below : list_all is_unit (below 64) ≡ true
unfolding below
all_below = refl

-- a unit that a chain does not have yet
record IsNext (used : List ℕ) (u : ℕ) : Type 0 where
  unit : is_unit u ≡ true
  new : has used u ≡ false

next-unit : (used : List ℕ) (u : ℕ) → (chain_unit used).fits u ≡ true → IsNext used u
next-unit used u e =
    let h = kept (λ u. not (has used u)) is_unit (below 64) u all_below (and-left _ _ e) in
    record { unit = h.1; new = not-true _ h.0 }

chain-units : (n : ℕ) (used us : List ℕ) → fit_many chain_unit after_unit n used us ≡ true → list_all is_unit us ≡ true
unfolding fit_many
chain-units zero used [] e = refl
chain-units zero used (u ∷ us) e = absurd cc
chain-units (suc n) used [] e = refl
chain-units (suc n) used (u ∷ us) e = both _ _ (next-unit used u (and-left _ _ e)).unit (chain-units n (after_unit used u) us (and-right _ _ e))

or-true : (a b : Bool) → b ≡ true → (a || b) ≡ true
or-true true b e = refl
or-true false b e = e

or-first : (a b : Bool) → a ≡ true → (a || b) ≡ true
or-first a b e = rw e refl

either : (a b : Bool) → a ≡ false → b ≡ false → (a || b) ≡ false
either a b p q = rw (p, q) refl

not-same : (used : List ℕ) (u v : ℕ) (b : Bool) → eqb v u ≡ b → has used u ≡ true → has used v ≡ false → b ≡ false
not-same used u v true is old new = let same = eqb-true v u is in absurd (both_ways (has used u) (subst (λ n. has used n ≡ false) same new) old)
not-same used u v false is old new = refl

-- a unit that stood before stands no more
no-more : (n : ℕ) (used us : List ℕ) (u : ℕ) → has used u ≡ true → fit_many chain_unit after_unit n used us ≡ true → has us u ≡ false
unfolding fit_many
no-more n used [] u old e = refl
no-more zero used (v ∷ us) u old e = absurd cc
no-more (suc n) used (v ∷ us) u old e =
    let new = (next-unit used v (and-left _ _ e)).new in
    either _ _ (not-same used u v (eqb v u) refl old new) (no-more n (after_unit used v) us u (or-true (eqb v u) _ old) (and-right _ _ e))

chain-distinct : (n : ℕ) (used us : List ℕ) → fit_many chain_unit after_unit n used us ≡ true → is_distinct us ≡ true
unfolding fit_many
chain-distinct n used [] e = refl
chain-distinct zero used (u ∷ us) e = absurd cc
chain-distinct (suc n) used (u ∷ us) e =
    let rest = and-right _ _ e in
    let here : has (after_unit used u) u ≡ true = or-first (eqb u u) (has used u) (eq-eqb u u refl) in
    let gone_on : has us u ≡ false = no-more n (after_unit used u) us u here rest in
    both _ _ (rw gone_on refl) (chain-distinct n (after_unit used u) us rest)

as-chain : (us : List ℕ) → chain.fits us ≡ true → is_chain us ≡ true
unfolding chain
as-chain us e =
    let len = met_within 1 5 (length us) (and-left _ _ (dep_first (u8 ((1, 5) ∷ [])) (λ n. many chain_unit after_unit n []) (length us, us) e)) in
    let units = dep_second (u8 ((1, 5) ∷ [])) (λ n. many chain_unit after_unit n []) (length us, us) e in
    is_chain-from us (record { some = len.0; few = len.1; each_unit = chain-units (length us) [] us units; distinct = chain-distinct (length us) [] us units })

-- ---- ranges

stripes-chains : (n : ℕ) (s : Unit {0}) (cs : List (List ℕ)) → fit_many stripe after_stripe n s cs ≡ true → list_all is_chain cs ≡ true
unfolding fit_many
stripes-chains zero s [] e = refl
stripes-chains zero s (c ∷ cs) e = absurd cc
stripes-chains (suc n) s [] e = refl
stripes-chains (suc n) s (c ∷ cs) e = both _ _ (as-chain c (and-left _ _ e)) (stripes-chains n s cs (and-right _ _ e))

as-range : (s : ℕ × ℕ) (r : Range) → (range s).fits r ≡ true → is_range r ≡ true
unfolding stripes
as-range s r e =
    let body = dep_second (u64 (s ∷ [])) (λ _. stripes) (r.lo, r.stripes) e in
    let len = met_within 1 8 (length r.stripes) (and-left _ _ (dep_first (u8 ((1, 8) ∷ [])) (λ n. many stripe after_stripe n tt) (length r.stripes, r.stripes) body)) in
    let chains = dep_second (u8 ((1, 8) ∷ [])) (λ n. many stripe after_stripe n tt) (length r.stripes, r.stripes) body in
    both _ _ (is_within-from 1 8 (length r.stripes) len.0 len.1) (stripes-chains (length r.stripes) tt r.stripes chains)

begins-within : (s : ℕ × ℕ) (r : Range) → (range s).fits r ≡ true → (s.0 ≤ r.lo) × (r.lo ≤ s.1)
begins-within s r e = met_within s.0 s.1 r.lo (and-left _ _ (dep_first (u64 (s ∷ [])) (λ _. stripes) (r.lo, r.stripes) e))

ranges-good : (start n : ℕ) (s : ℕ × ℕ) (rs : List Range) → fit_many range (after_range start) n s rs ≡ true → list_all is_range rs ≡ true
unfolding fit_many
ranges-good start zero s [] e = refl
ranges-good start zero s (r ∷ rs) e = absurd cc
ranges-good start (suc n) s [] e = refl
ranges-good start (suc n) s (r ∷ rs) e = both _ _ (as-range s r (and-left _ _ e)) (ranges-good start n (after_range start s r) rs (and-right _ _ e))

ranges-below : (start n : ℕ) (s : ℕ × ℕ) (rs : List Range) → s.1 ≤ start → fit_many range (after_range start) n s rs ≡ true → list_all (λ r. nat_le r.lo start) rs ≡ true
unfolding fit_many
ranges-below start zero s [] le e = refl
ranges-below start zero s (r ∷ rs) le e = absurd cc
ranges-below start (suc n) s [] le e = refl
ranges-below start (suc n) s (r ∷ rs) le e =
    let h = begins-within s r (and-left _ _ e) in
    both _ _ (le-leb r.lo start (omega (arith, h.1, le))) (ranges-below start n (after_range start s r) rs (omega arith) (and-right _ _ e))

ranges-order : (start n : ℕ) (s : ℕ × ℕ) (rs : List Range) → fit_many range (after_range start) n s rs ≡ true → never_falls (map lo_of rs) ≡ true
unfolding fit_many
ranges-order start n s [] e = refl
ranges-order start n s (r ∷ []) e = refl
ranges-order start zero s (r ∷ q ∷ rs) e = absurd cc
ranges-order start (suc zero) s (r ∷ q ∷ rs) e = absurd (false≢true (and-right _ _ e))
ranges-order start (suc (suc n)) s (r ∷ q ∷ rs) e =
    let later = and-right ((range s).fits r) (fit_many range (after_range start) (suc n) (after_range start s r) (q ∷ rs)) e in
    let h = begins-within (after_range start s r) q (and-left _ _ later) in
    both _ _ (le-leb r.lo q.lo h.0) (ranges-order start (suc n) (after_range start s r) (q ∷ rs) later)

first-at_zero : (start n : ℕ) (rs : List Range) → fit_many range (after_range start) n (0, 0) rs ≡ true → begins_at_zero rs ≡ true
unfolding fit_many
first-at_zero start n [] e = refl
first-at_zero start zero (r ∷ rs) e = absurd cc
first-at_zero start (suc n) (r ∷ rs) e = let h = begins-within (0, 0) r (and-left _ _ e) in eq-eqb r.lo 0 (omega (arith, h.1))

pub is_layout_of : (l : Layout) → 1 ≤ l.epoch → gone.fits l.gone ≡ true → (ranges l.start).fits l.ranges ≡ true → IsLayout l
unfolding ranges
is_layout_of l epoch units e =
    let body = dep_second (u8 ((1, 32) ∷ [])) (λ n. many range (after_range l.start) n (0, 0)) (length l.ranges, l.ranges) e in
    let len = met_within 1 32 (length l.ranges) (and-left _ _ (dep_first (u8 ((1, 32) ∷ [])) (λ n. many range (after_range l.start) n (0, 0)) (length l.ranges, l.ranges) e)) in
    let rising = gone-fit l.gone units in
    IsLayout-from l (record {
      epoch = epoch;
      gone_units = gone-units (length l.gone) 0 l.gone rising;
      gone_rises = gone-rise (length l.gone) 0 l.gone rising;
      some = len.0;
      few = len.1;
      ranges = ranges-good l.start (length l.ranges) (0, 0) l.ranges body;
      at_zero = first-at_zero l.start (length l.ranges) l.ranges body;
      in_order = ranges-order l.start (length l.ranges) (0, 0) l.ranges body;
      below_start = ranges-below l.start (length l.ranges) (0, 0) l.ranges (omega arith) body;
    })
