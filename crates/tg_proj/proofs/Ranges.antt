-- The range of a position is the number of those that begin at or below it, less one.
use Rattle.std.proofs.Common.{◌≡◌, ℕ, zero, suc, ◌+◌, ◌-◌, ◌<◌, ◌≤◌, Bool, true, false, cond, leb, get_or, List, [], ◌∷◌, length, refl, ap, sym, subst, ◌∙◌, arith}
use Rattle.std.specs.Prelude.{map, nat_le, count_by}
use Rattle.std.proofs.lemmas.Bool.{leb-true, leb-false, le-leb, lt-leb, eqb-true}
use Rattle.std.proofs.lemmas.List.Sums.{sum_by-cons}
use Rattle.tg_base.specs.declared.layout.Range.{Range}
use Rattle.std.specs.List.{list_all}
use Rattle.tg_base.specs.Units.{never_falls, is_chain}
use Rattle.tg_base.specs.Layouts.{Layout, IsLayout, lo_of, begins_at_zero, is_range}
use Rattle.tg_base.proofs.Exact.{and-left, and-right}
use Rattle.tg_base.proofs.Rules.{layout_rules, within-low}
use Rattle.tg_proj.specs.Places.{range_at, IsRangeOf, range_number}

abbrev pub reached : ℕ → List Range → ℕ
reached pos rs = count_by (λ r. nat_le r.lo pos) rs

-- none begins before the first
at_least : (s : Range) (ss : List Range) → never_falls (map lo_of (s ∷ ss)) ≡ true → (m : ℕ) → m < length (s ∷ ss) → s.lo ≤ (range_at (s ∷ ss) m).lo
at_least s ss e zero h = omega arith
at_least s [] e (suc m) h = absurd (omega arith)
at_least s (t ∷ ts) e (suc m) h =
    let first : s.lo ≤ t.lo = leb-true s.lo t.lo (and-left _ _ e) in
    let later : t.lo ≤ (range_at (t ∷ ts) m).lo = at_least t ts (and-right _ _ e) m (omega arith) in
    omega arith

abbrev weigh : Bool → ℕ
weigh b = cond b 1 0

abbrev weight : ℕ → Range → ℕ
weight pos r = weigh (nat_le r.lo pos)

one_more : (r : Range) (rs : List Range) (pos : ℕ) → leb r.lo pos ≡ true → reached pos (r ∷ rs) ≡ suc (reached pos rs)
one_more r rs pos e =
    let step : reached pos (r ∷ rs) ≡ weight pos r + reached pos rs = sum_by-cons (weight pos) r rs in
    let one : weight pos r ≡ 1 = ap weigh e in
    omega (arith, step, one)

no_more : (r : Range) (rs : List Range) (pos : ℕ) → leb r.lo pos ≡ false → reached pos (r ∷ rs) ≡ reached pos rs
no_more r rs pos e =
    let step : reached pos (r ∷ rs) ≡ weight pos r + reached pos rs = sum_by-cons (weight pos) r rs in
    let none : weight pos r ≡ 0 = ap weigh e in
    omega (arith, step, none)

none_reached : (s : Range) (ss : List Range) (pos : ℕ) → pos < s.lo → never_falls (map lo_of (s ∷ ss)) ≡ true → reached pos (s ∷ ss) ≡ 0
none_reached s [] pos h e = no_more s [] pos (lt-leb s.lo pos h)
none_reached s (t ∷ ts) pos h e =
    let first : s.lo ≤ t.lo = leb-true s.lo t.lo (and-left _ _ e) in
    no_more s (t ∷ ts) pos (lt-leb s.lo pos h) ∙ none_reached t ts pos (omega arith) (and-right _ _ e)

one_later : (r : Range) (xs : List Range) (pos n : ℕ) → IsRangeOf xs pos n → IsRangeOf (r ∷ xs) pos (suc n)
one_later r xs pos n h = record {
  there = omega (arith, h.there);
  reached = h.reached;
  last = beyond;
}
  where
    beyond : (m : ℕ) → suc n < m → m < length (r ∷ xs) → pos < (range_at (r ∷ xs) m).lo
    beyond zero a b = absurd (omega arith)
    beyond (suc m) a b = h.last m (omega arith) (omega arith)

by_count : (r : Range) (rs : List Range) (pos : ℕ) → r.lo ≤ pos → never_falls (map lo_of (r ∷ rs)) ≡ true → IsRangeOf (r ∷ rs) pos (reached pos rs)
by_count r [] pos h e = record { there = omega arith; reached = h; last = λ m a b. absurd (omega arith) }
by_count r (s ∷ ss) pos h e = at (leb s.lo pos) refl (λ q. by_count s ss pos q (and-right _ _ e))
  where
    at : (b : Bool) → leb s.lo pos ≡ b → (s.lo ≤ pos → IsRangeOf (s ∷ ss) pos (reached pos ss)) → IsRangeOf (r ∷ s ∷ ss) pos (reached pos (s ∷ ss))
    at true q later =
        let count : reached pos (s ∷ ss) ≡ suc (reached pos ss) = one_more s ss pos q in
        subst (IsRangeOf (r ∷ s ∷ ss) pos) (sym count) (one_later r (s ∷ ss) pos (reached pos ss) (later (leb-true s.lo pos q)))
    at false q later =
        let above : pos < s.lo = leb-false s.lo pos q in
        let count : reached pos (s ∷ ss) ≡ 0 = none_reached s ss pos above (and-right _ _ e) in
        let beyond : (m : ℕ) → 0 < m → m < length (r ∷ s ∷ ss) → pos < (range_at (r ∷ s ∷ ss) m).lo = past above in
        subst (IsRangeOf (r ∷ s ∷ ss) pos) (sym count) (record { there = omega arith; reached = h; last = beyond })
      where
        past : pos < s.lo → (m : ℕ) → 0 < m → m < length (r ∷ s ∷ ss) → pos < (range_at (r ∷ s ∷ ss) m).lo
        past above zero a b = absurd (omega arith)
        past above (suc m) a b = let bound = at_least s ss (and-right _ _ e) m (omega arith) in omega arith

first_reached : (ranges : List Range) (pos : ℕ) → 1 ≤ length ranges → begins_at_zero ranges ≡ true → never_falls (map lo_of ranges) ≡ true
    → (1 ≤ reached pos ranges) × IsRangeOf ranges pos (reached pos ranges - 1)
first_reached [] pos some at_zero e = absurd (omega arith)
first_reached (r ∷ rs) pos some at_zero e =
    let zero_lo : r.lo ≡ 0 = eqb-true r.lo 0 at_zero in
    let low : r.lo ≤ pos = omega arith in
    let count : reached pos (r ∷ rs) ≡ suc (reached pos rs) = one_more r rs pos (le-leb r.lo pos low) in
    let less : reached pos rs ≡ reached pos (r ∷ rs) - 1 = omega arith in
    (omega arith, subst (IsRangeOf (r ∷ rs) pos) less (by_count r rs pos low e))

pub some_reached : (p : Layout) (pos : ℕ) → IsLayout p → 1 ≤ reached pos p.ranges
some_reached p pos h = let l = layout_rules p h in (first_reached p.ranges pos l.some l.at_zero l.in_order).0

pub range_found : (p : Layout) (pos : ℕ) → IsLayout p → IsRangeOf p.ranges pos (range_number p.ranges pos)
range_found p pos h = let l = layout_rules p h in (first_reached p.ranges pos l.some l.at_zero l.in_order).1

-- what each of a list passes, one at a place passes
pub each_passes : {A : Type 0} (test : A → Bool) (xs : List A) (i : ℕ) (d : A) → i < length xs → list_all test xs ≡ true → test (get_or xs i d) ≡ true
each_passes test [] i d h e = absurd (omega arith)
each_passes test (x ∷ xs) zero d h e = and-left _ _ e
each_passes test (x ∷ xs) (suc i) d h e = each_passes test xs i d (omega arith) (and-right _ _ e)

-- each stripe of a layout is a chain
pub stripe_is_chain : (r : Range) → is_range r ≡ true → (k : ℕ) (d : List ℕ) → k < length r.stripes → is_chain (get_or r.stripes k d) ≡ true
stripe_is_chain r h k d q = each_passes is_chain r.stripes k d q (and-right _ _ h)

pub some_stripe : (r : Range) → is_range r ≡ true → 1 ≤ length r.stripes
some_stripe r h = within-low 1 8 (length r.stripes) (and-left _ _ h)
