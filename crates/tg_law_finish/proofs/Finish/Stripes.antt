-- The positions of a stripe of a closed range: the chain that they have, the first one at or past a position, and which of
-- them a unit lacks.
use Rattle.std.proofs.Common.{◌≡◌, ◌⊎◌, ℕ, zero, suc, ◌+◌, ◌-◌, ◌*◌, ◌/◌, ◌%◌, ◌<◌, ◌≤◌, List, [], ◌∷◌, length, Bool, true, false, refl, ap, ◌∙◌, sym, subst, inl, inr, arith, Option, Some, None}
use Rattle.std.proofs.Math.Nat.{suc-mul}
use Rattle.std.proofs.lemmas.Bool.Decides.{nat_tests}
use Rattle.std.proofs.lemmas.Nat.{mul-le, mod-mul-add}
use Rattle.std.specs.Prelude.{map, nat_le, if◌then◌else◌}
use Rattle.tg_base.proofs.Exact.{and-left, and-right}
use Rattle.tg_base.proofs.Rules.{layout_rules}
use Rattle.tg_base.specs.Layouts.{Layout, IsLayout, lo_of}
use Rattle.tg_base.specs.Units.{has, never_falls}
use Rattle.tg_base.specs.declared.layout.Range.{Range}
use Rattle.tg_kind.specs.Meaning.{Meaning}
use Rattle.tg_proj.specs.Places.{range_at, chain_at, stripe_number, no_range}
use Rattle.tg_proj.specs.declared.fault.ProjFault.{ProjFault}
use Rattle.tg_proj.specs.declared.fault.ProjFault.TheVariants.{NotClosed, NoStripe, InChain, Returned}
use Rattle.tg_proj.proofs.Ranges.{each_passes}
use Rattle.tg_protocol.specs.Layouts.{chain_of, range_end, next_in_stripe}
use Rattle.tg_protocol.specs.Units.{UnitState, settled_at, first_missing, how_many}
use Rattle.tg_protocol.specs.Clients.{by_layout, copy_fault}
use Rattle.tg_law_cells.proofs.Cells.Successors.{PlaceOf, place_of, has_true}
use Rattle.tg_law_layouts.proofs.Moves.Members.{Has}

-- the first position of a stripe, and how far its positions are apart
abbrev pub first_of : Layout → ℕ → ℕ → ℕ
first_of p r s = (range_at p.ranges r).lo + s

abbrev pub step_of : Layout → ℕ → ℕ
step_of p r = length (range_at p.ranges r).stripes

-- one of the stripe's positions
pub record InStripe (p : Layout) (r s pos : ℕ) : Type 0 where
  pub at : ℕ
  pub is : pos ≡ first_of p r s + at * step_of p r
  pub below : pos < range_end p r

-- Numbers f, f + n, ..

-- the first of them at or past a position
pub record Past (f n pos q : ℕ) : Type 0 where
  pub at : ℕ
  pub is : q ≡ f + at * n
  pub from : pos ≤ q
  pub least : (i : ℕ) → pos ≤ f + i * n → q ≤ f + i * n

low_at : (pos f : ℕ) → nat_le pos f ≡ true → pos ≤ f
low_at pos f e = grind (arith, nat_tests)

high_at : (pos f : ℕ) → nat_le pos f ≡ false → f < pos
high_at pos f e = grind (arith, nat_tests)

less_or : (a b : ℕ) → (a < b) ⊎ (b ≤ a)
less_or a b = grind arith

one_more : (i n : ℕ) → (i + 1) * n ≡ i * n + n
one_more i n = grind arith

-- past the first one
past_first : (f n pos x : ℕ) → 0 < n → f < pos → x ≡ (pos - f) + n - 1 → Past f n pos (pos + (n - 1 - x % n))
past_first f n pos x some high is =
    let parts : n * (x / n) + x % n ≡ x = omega arith in
    let small : x % n < n = omega (arith, some) in
    let turned : n * (x / n) ≡ (x / n) * n = omega arith in
    record {
      at = x / n;
      is = omega (arith, parts, small, turned, is, high);
      from = omega arith;
      least = λ i le. by i le (less_or i (x / n));
    }
  where
    by : (i : ℕ) → pos ≤ f + i * n → (i < x / n) ⊎ (x / n ≤ i) → pos + (n - 1 - x % n) ≤ f + i * n
    by i le (inl less) =
        let parts : n * (x / n) + x % n ≡ x = omega arith in
        let turned : n * (x / n) ≡ (x / n) * n = omega arith in
        let a : (i + 1) * n ≤ (x / n) * n = mul-le (i + 1) n (x / n) n (omega (arith, less)) (omega arith) in
        let b : (i + 1) * n ≡ i * n + n = one_more i n in
        absurd (omega (arith, parts, turned, a, b, le, is, high, some))
    by i le (inr few) =
        let parts : n * (x / n) + x % n ≡ x = omega arith in
        let small : x % n < n = omega (arith, some) in
        let turned : n * (x / n) ≡ (x / n) * n = omega arith in
        let a : (x / n) * n ≤ i * n = mul-le (x / n) n i n few (omega arith) in
        omega (arith, parts, small, turned, a, is, high)

past_by : (f n pos : ℕ) (b : Bool) → 0 < n → nat_le pos f ≡ b → Past f n pos (if b then f else pos + (n - 1 - ((pos - f) + n - 1) % n))
past_by f n pos true some e = let low = low_at pos f e in record { at = 0; is = omega arith; from = low; least = λ i le. omega arith }
past_by f n pos false some e = past_first f n pos ((pos - f) + n - 1) some (high_at pos f e) refl

pub next_past : (p : Layout) (r s pos : ℕ) → 0 < step_of p r → Past (first_of p r s) (step_of p r) pos (next_in_stripe (range_at p.ranges r) s pos)
next_past p r s pos some = past_by (first_of p r s) (step_of p r) pos (nat_le pos (first_of p r s)) some refl

-- Of one stripe.
module _ (p : Layout) (r s : ℕ) (rules : IsLayout p) (closed : r + 1 < length p.ranges) (there : s < step_of p r) where
  below_both : {x y z : ℕ} → x ≤ y → y ≤ z → x ≤ z
  below_both a b = omega (arith, a, b)

  rises : (rs : List Range) → never_falls (map lo_of rs) ≡ true → (i j : ℕ) → i ≤ j → j < length rs → (range_at rs i).lo ≤ (range_at rs j).lo
  rises [] e i j le less = absurd (omega (arith, less))
  rises (x ∷ []) e zero zero le less = omega arith
  rises (x ∷ []) e i (suc j) le less = absurd (omega (arith, less))
  rises (x ∷ []) e (suc i) zero le less = absurd (omega (arith, le))
  rises (x ∷ y ∷ ys) e zero zero le less = omega arith
  rises (x ∷ y ∷ ys) e zero (suc j) le less = below_both (low_at x.lo y.lo (and-left _ _ e)) (rises (y ∷ ys) (and-right _ _ e) 0 j (omega arith) (omega (arith, less)))
  rises (x ∷ y ∷ ys) e (suc i) zero le less = absurd (omega (arith, le))
  rises (x ∷ y ∷ ys) e (suc i) (suc j) le less = rises (y ∷ ys) (and-right _ _ e) i j (omega (arith, le)) (omega (arith, less))

  -- the range ends at or below the layout's start
  pub ends_low : range_end p r ≤ p.start
  ends_low = low_at (range_end p r) p.start (each_passes (λ (x : Range). nat_le x.lo p.start) p.ranges (r + 1) no_range closed (layout_rules p rules).below_start)

  module _ (pos : ℕ) (i : InStripe p r s pos) where
    stripe_is : (pos - (range_at p.ranges r).lo) % step_of p r ≡ s
    stripe_is = let is = i.is in let e : pos - (range_at p.ranges r).lo ≡ i.at * step_of p r + s = omega (arith, is) in ap (λ z. z % step_of p r) e ∙ mod-mul-add i.at (step_of p r) s there

    range_is : (a : PlaceOf p pos) → (a.range < r) ⊎ (r ≤ a.range) → a.range ≡ r
    range_is a (inl less) = let l = a.is.last r less (omega (arith, closed)) in let is = i.is in absurd (omega (arith, l, is))
    range_is a (inr le) = by (less_or r a.range)
      where
        by : (r < a.range) ⊎ (a.range ≤ r) → a.range ≡ r
        by (inl more) =
            let reached = a.is.reached in
            let below = i.below in
            let up = rises p.ranges (layout_rules p rules).in_order (r + 1) a.range (omega (arith, more)) a.is.there in
            absurd (omega (arith, reached, below, up))
        by (inr few) = omega (arith, le, few)

    pub chain_is : chain_of p pos ≡ chain_at p.ranges r s
    chain_is =
        let a = place_of p pos rules in
        let e = range_is a (less_or a.range r) in
        let f = a.stripe_is ∙ (ap (λ n. stripe_number (range_at p.ranges n) pos) e ∙ stripe_is) in
        a.chain ∙ (ap (λ n. chain_at p.ranges n a.stripe) e ∙ ap (λ n. chain_at p.ranges r n) f)

-- What a unit lacks first.

-- the first of n positions, from one on a step apart, that a unit neither has nor has trimmed
pub record Missed (u : UnitState) (lo step n pos : ℕ) : Type 0 where
  pub at : ℕ
  pub less : at < n
  pub is : pos ≡ lo + at * step
  pub lacks : settled_at u pos ≡ false
  pub had : (i : ℕ) → i < at → settled_at u (lo + i * step) ≡ true

some_num : (a b : ℕ) → Some a ≡ Some b → a ≡ b
some_num a b e = cc

missed_by : (u : UnitState) (step n lo pos : ℕ) (b : Bool) → settled_at u lo ≡ b → (first_missing u step n (lo + step) ≡ Some pos → Missed u (lo + step) step n pos)
    → (elim b as (λ _. Option ℕ) [ true ↦ first_missing u step n (lo + step) | false ↦ Some lo ]) ≡ Some pos → Missed u lo step (suc n) pos
missed_by u step n lo pos true has rest e =
    let y = rest e in
    let less = y.less in
    let is = y.is in
    let x = suc-mul y.at step in
    record { at = suc y.at; less = omega (arith, less); is = omega (arith, is, x); lacks = y.lacks; had = λ i l. had y i l }
  where
    had : (y : Missed u (lo + step) step n pos) (i : ℕ) → i < suc y.at → settled_at u (lo + i * step) ≡ true
    had y zero l = subst (λ (q : ℕ). settled_at u q ≡ true) (omega arith) has
    had y (suc i) l = let x = suc-mul i step in subst (λ (q : ℕ). settled_at u q ≡ true) (omega (arith, x)) (y.had i (omega (arith, l)))
missed_by u step n lo pos false has rest e =
    let is = some_num lo pos e in
    record { at = 0; less = omega arith; is = omega (arith, is); lacks = subst (λ (q : ℕ). settled_at u q ≡ false) is has; had = λ i l. absurd (omega (arith, l)) }

pub missed : (u : UnitState) (step n lo pos : ℕ) → first_missing u step n lo ≡ Some pos → Missed u lo step n pos
unfolding first_missing
missed u step zero lo pos e = absurd cc
missed u step (suc n) lo pos e = missed_by u step n lo pos (settled_at u lo) refl (λ f. missed u step n (lo + step) pos f) e

-- it lies below the end up to which was looked
below_end : (lo hi step at : ℕ) → 0 < step → at < how_many lo hi step → lo + at * step < hi
below_end lo hi step at some less =
    let x = (hi - lo) + (step - 1) in
    let parts : step * (x / step) + x % step ≡ x = omega arith in
    let turned : step * (x / step) ≡ (x / step) * step = omega arith in
    let a : (at + 1) * step ≤ (x / step) * step = mul-le (at + 1) step (x / step) step (omega (arith, less)) (omega arith) in
    let b : (at + 1) * step ≡ at * step + step = one_more at step in
    omega (arith, parts, turned, a, b, some)

pub missed_in : (p : Layout) (r s pos : ℕ) (u : UnitState) → 0 < step_of p r → Missed u (first_of p r s) (step_of p r) (how_many (first_of p r s) (range_end p r) (step_of p r)) pos → InStripe p r s pos
missed_in p r s pos u some y = let is = y.is in let l = below_end (first_of p r s) (range_end p r) (step_of p r) y.at some y.less in record { at = y.at; is = y.is; below = omega (arith, is, l) }

-- all before it are there
pub missed_before : (p : Layout) (r s pos n k : ℕ) (u : UnitState) → Missed u (first_of p r s) (step_of p r) k pos → InStripe p r s n → n < pos → settled_at u n ≡ true
missed_before p r s pos n k u y i less = by (less_or i.at y.at)
  where
    by : (i.at < y.at) ⊎ (y.at ≤ i.at) → settled_at u n ≡ true
    by (inl l) = subst (λ (q : ℕ). settled_at u q ≡ true) (sym i.is) (y.had i.at l)
    by (inr le) =
        let a : y.at * step_of p r ≤ i.at * step_of p r = mul-le y.at (step_of p r) i.at (step_of p r) le (omega arith) in
        let is = y.is in
        let at = i.is in
        absurd (omega (arith, a, is, at, less))

-- A copy that isn't refused is of a stripe of a closed range, to a unit that neither stands in its chain nor is gone.

four : (m : Meaning) (a b c d : Bool) (x y z v : ProjFault) → by_layout m (if a then Some x else if b then Some y else if c then Some z else if d then Some v else None) ≡ None → (a ≡ false) × (b ≡ false) × (c ≡ false) × (d ≡ false)
four m true b c d x y z v e = absurd cc
four m false true c d x y z v e = absurd cc
four m false false true d x y z v e = absurd cc
four m false false false true x y z v e = absurd cc
four m false false false false x y z v e = (refl, refl, refl, refl)

not_both : (b : Bool) → b ≡ true → b ≡ false → ⊥
not_both b e f = grind arith

module _ (m : Meaning) (p : Layout) (u r s : ℕ) (fine : copy_fault m p u r s ≡ None) where
  parts : (nat_le (length p.ranges) (r + 1) ≡ false) × (nat_le (step_of p r) s ≡ false) × (has (chain_at p.ranges r s) u ≡ false) × (has p.gone u ≡ false)
  unfolding copy_fault
  parts = four m (nat_le (length p.ranges) (r + 1)) (nat_le (step_of p r) s) (has (chain_at p.ranges r s) u) (has p.gone u) (NotClosed r) (NoStripe r s) (InChain u) (Returned u) fine

  pub is_closed : r + 1 < length p.ranges
  is_closed = high_at (length p.ranges) (r + 1) parts.0

  pub is_there : s < step_of p r
  is_there = high_at (step_of p r) s parts.1

  pub not_gone : has p.gone u ≡ false
  not_gone = parts.3

  pub some_step : 0 < step_of p r
  some_step = let l = is_there in omega (arith, l)

  pub stands_off : IsLayout p → (n : ℕ) → InStripe p r s n → Has (chain_of p n) u → ⊥
  stands_off rules n i g = not_both (has (chain_at p.ranges r s) u) (has_true (chain_at p.ranges r s) u (subst (λ (xs : List ℕ). Has xs u) (chain_is p r s rules is_closed is_there n i) g)) parts.2
