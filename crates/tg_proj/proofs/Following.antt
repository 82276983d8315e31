-- The next layout keeps the rules, and follows the old one.
use Rattle.std.proofs.Common.{◌≡◌, ℕ, suc, ◌+◌, ◌<◌, ◌≤◌, Bool, true, false, cond, not, ◌&&◌, ◌||◌, eqb, get_or, List, [], ◌∷◌, ◌++◌, length, drop, Option, Some, None, refl, ap, sym, subst, ◌∙◌, arith, append-nil, length-append, zero-add}
use Rattle.std.specs.Prelude.{nat_lt, nat_le, map, if◌then◌else◌, ◌==◌, IfSome}
use Rattle.std.specs.List.{list_all, concat}
use Rattle.std.proofs.lemmas.Bool.{leb-true, le-leb, eqb-true, leb-false, lt-ltb}
use Rattle.std.proofs.lemmas.List.Folds.{list_all-append, list_any-append, list_all-map}
use Rattle.std.proofs.lemmas.List.{map-append, get_or_append_left}
use Rattle.std.proofs.Math.Seq.{drop-append_seam}
use Rattle.tg_base.specs.declared.layout.Range.{Range}
use Rattle.tg_base.specs.declared.change.Join.{Join}
use Rattle.tg_base.specs.Units.{has, is_chain, is_unit, is_distinct, is_within, never_falls}
use Rattle.tg_base.specs.Layouts.{Layout, IsLayout, is_range, lo_of, begins_at_zero}
use Rattle.tg_base.specs.Changes.{Changed, IsChange, is_joining}
use Rattle.tg_base.proofs.Exact.{and-left, and-right, both, exact-numbers}
use Rattle.tg_base.proofs.Rules.{layout_rules, IsLayout-from, chain_rules, is_chain-from, change_rules, is_within-from}
use Rattle.tg_proj.specs.Places.{range_at, chain_at, no_range}
use Rattle.tg_proj.specs.Next.{kept, joined, next_chain, next_chains, next_range, next_ranges, opened_at, next_gone, next_layout}
use Rattle.tg_proj.specs.Refusals.{join_refusal, coming, joining, early_refusal, MayFollow, opens_too_many}
use Rattle.tg_proj.specs.Follows.{Follows, IsJoined}
use Rattle.tg_proj.proofs.Ranges.{each_passes}
use Rattle.tg_proj.proofs.Chains.{length-next_chains, length-next_ranges, get_or-next_chains, get_or-next_ranges}
use Rattle.tg_proj.proofs.Gone.{gone_units, gone_rises, has_gone}
use Rattle.tg_proj.proofs.Allowed.{allowed, join_allowed, stripe_rules, ranges_fit, some_left, come_in}

-- ---- tests

or_left : (a b : Bool) → (a || b) ≡ false → a ≡ false
or_left true b h = absurd cc
or_left false b h = refl

or_right : (a b : Bool) → (a || b) ≡ false → b ≡ false
or_right true b h = absurd cc
or_right false b h = h

not_true : (b : Bool) → not b ≡ true → b ≡ false
not_true true h = absurd cc
not_true false h = refl

flipped : (x u : ℕ) → eqb x u ≡ false → eqb u x ≡ false
flipped x u h = at (eqb u x) refl
  where
    at : (b : Bool) → eqb u x ≡ b → b ≡ false
    at false q = refl
    at true q =
        let same : eqb x u ≡ true = subst (λ z. eqb x z ≡ true) (sym (eqb-true u x q)) (exact-numbers.whole x) in
        let no : true ≡ false = sym same ∙ h in
        absurd cc

all_pass : {A : Type 0} (test : A → Bool) (xs : List A) → ((i : ℕ) → i < length xs → (d : A) → test (get_or xs i d) ≡ true) → list_all test xs ≡ true
all_pass test [] h = refl
all_pass test (x ∷ xs) h = both _ _ (h 0 (omega arith) x) (all_pass test xs (λ i a d. h (suc i) (omega arith) d))

-- ---- the units that stay

has_kept : (dropped chain : List ℕ) (u : ℕ) → has chain u ≡ false → has (kept dropped chain) u ≡ false
has_kept dropped [] u h = refl
has_kept dropped (x ∷ xs) u h = at (not (has dropped x)) (has_kept dropped xs u (or_right (eqb x u) (has xs u) h))
  where
    at : (b : Bool) → has (kept dropped xs) u ≡ false → has (cond b (x ∷ kept dropped xs) (kept dropped xs)) u ≡ false
    at true later = ap (λ b. b || has (kept dropped xs) u) (or_left (eqb x u) (has xs u) h) ∙ later
    at false later = later

kept_distinct : (dropped chain : List ℕ) → is_distinct chain ≡ true → is_distinct (kept dropped chain) ≡ true
kept_distinct dropped [] h = refl
kept_distinct dropped (x ∷ xs) h = at (not (has dropped x)) (kept_distinct dropped xs (and-right _ _ h))
  where
    at : (b : Bool) → is_distinct (kept dropped xs) ≡ true → is_distinct (cond b (x ∷ kept dropped xs) (kept dropped xs)) ≡ true
    at true later = both _ _ (ap not (has_kept dropped xs x (not_true (has xs x) (and-left _ _ h)))) later
    at false later = later

kept_units : (dropped chain : List ℕ) → list_all is_unit chain ≡ true → list_all is_unit (kept dropped chain) ≡ true
kept_units dropped [] h = refl
kept_units dropped (x ∷ xs) h = at (not (has dropped x)) (kept_units dropped xs (and-right _ _ h))
  where
    at : (b : Bool) → list_all is_unit (kept dropped xs) ≡ true → list_all is_unit (cond b (x ∷ kept dropped xs) (kept dropped xs)) ≡ true
    at true later = both _ _ (and-left _ _ h) later
    at false later = later

last_distinct : (xs : List ℕ) (u : ℕ) → is_distinct xs ≡ true → has xs u ≡ false → is_distinct (xs ++ u ∷ []) ≡ true
last_distinct [] u h e = refl
last_distinct (x ∷ xs) u h e =
    let here : has xs x ≡ false = not_true (has xs x) (and-left _ _ h) in
    let there : eqb u x ≡ false = flipped x u (or_left (eqb x u) (has xs u) e) in
    let none : has (xs ++ u ∷ []) x ≡ false = list_any-append (λ y. y == x) xs (u ∷ []) ∙ ap (λ b. b || (u == x || false)) here ∙ ap (λ b. b || false) there in
    both _ _ (ap not none) (last_distinct xs u (and-right _ _ h) (or_right (eqb x u) (has xs u) e))

last_unit : (xs : List ℕ) (u : ℕ) → list_all is_unit xs ≡ true → is_unit u ≡ true → list_all is_unit (xs ++ u ∷ []) ≡ true
last_unit xs u h e = list_all-append is_unit xs (u ∷ []) ∙ both _ _ h (both _ _ e refl)

-- what holds of the units that stay, and with a new one, holds of the next chain
joined_keeps : (P : List ℕ → Type 0) (p : Layout) (dropped : List ℕ) (join : Option Join) (n k : ℕ) → join_refusal p dropped join ≡ None
    → P (kept dropped (chain_at p.ranges n k))
    → ((j : Join) → join ≡ Some j → has (chain_at p.ranges n k) j.unit ≡ false → P (kept dropped (chain_at p.ranges n k) ++ j.unit ∷ []))
    → P (kept dropped (chain_at p.ranges n k) ++ joined join n k)
joined_keeps P p dropped None n k h stay more = subst P (sym (append-nil _)) stay
joined_keeps P p dropped (Some j) n k h stay more = at (j.range == n && j.stripe == k) refl
  where
    at : (b : Bool) → (j.range == n && j.stripe == k) ≡ b → P (kept dropped (chain_at p.ranges n k) ++ (if b then j.unit ∷ [] else []))
    at false q = subst P (sym (append-nil _)) stay
    at true q =
        let range : j.range ≡ n = eqb-true j.range n (and-left _ _ q) in
        let stripe : j.stripe ≡ k = eqb-true j.stripe k (and-right _ _ q) in
        more j refl (subst (λ m. has (chain_at p.ranges m k) j.unit ≡ false) range (subst (λ m. has (chain_at p.ranges j.range m) j.unit ≡ false) stripe (join_allowed p dropped j h).new))

next_is_chain : (p : Layout) (c : Changed) → IsLayout p → IsChange c → early_refusal p c ≡ None → (n k : ℕ) → n < length p.ranges → k < length (range_at p.ranges n).stripes
    → is_chain (next_chain c n k (chain_at p.ranges n k)) ≡ true
next_is_chain p c h g e n k a b =
    let chain = chain_at p.ranges n k in
    let old = chain_rules chain (stripe_rules p h n k a b) in
    let join = (allowed p c e).join in
    let some = some_left p c e n k a b in
    let long = length-append (kept c.drop chain) (joined c.join n k) in
    is_chain-from (next_chain c n k chain) (record {
      some = omega (arith, some, long);
      few = ranges_fit p c h e n a k b;
      each_unit = joined_keeps (λ xs. list_all is_unit xs ≡ true) p c.drop c.join n k join (kept_units c.drop chain old.each_unit)
          (λ j q new. last_unit (kept c.drop chain) j.unit (kept_units c.drop chain old.each_unit) (subst (λ o. is_joining o ≡ true) q (change_rules c g).join));
      distinct = joined_keeps (λ xs. is_distinct xs ≡ true) p c.drop c.join n k join (kept_distinct c.drop chain old.distinct)
          (λ j q new. last_distinct (kept c.drop chain) j.unit (kept_distinct c.drop chain old.distinct) (has_kept c.drop chain j.unit new));
    })

next_is_range : (p : Layout) (c : Changed) → IsLayout p → IsChange c → early_refusal p c ≡ None → (n : ℕ) → n < length p.ranges → is_range (next_range c n (range_at p.ranges n)) ≡ true
next_is_range p c h g e n a =
    let r = range_at p.ranges n in
    let old : is_range r ≡ true = each_passes is_range p.ranges n no_range a (layout_rules p h).ranges in
    let long = length-next_chains c n 0 r.stripes in
    both _ _ (ap (is_within 1 8) long ∙ and-left _ _ old)
    (all_pass is_chain (next_chains c n 0 r.stripes) (λ i b d.
    let within : i < length r.stripes = subst (λ m. i < m) long b in
    ap is_chain (get_or-next_chains c n 0 r.stripes i d [] within ∙ ap (λ m. next_chain c n m (get_or r.stripes i [])) (zero-add i))
    ∙ next_is_chain p c h g e n i a within))

-- ---- the ranges

next_los : (c : Changed) (n : ℕ) (rs : List Range) → map lo_of (next_ranges c n rs) ≡ map lo_of rs
next_los c n [] = refl
next_los c n (r ∷ rs) = ap (λ ls. r.lo ∷ ls) (next_los c (n + 1) rs)

below : ℕ → Range → Bool
below start r = nat_le r.lo start

never_falls_last : (xs : List ℕ) (y : ℕ) → never_falls xs ≡ true → list_all (λ x. nat_le x y) xs ≡ true → never_falls (xs ++ y ∷ []) ≡ true
never_falls_last [] y h e = refl
never_falls_last (x ∷ []) y h e = both _ _ (and-left _ _ e) refl
never_falls_last (x ∷ z ∷ zs) y h e = both _ _ (and-left _ _ h) (never_falls_last (z ∷ zs) y (and-right _ _ h) (and-right _ _ e))

all_below : (xs : List ℕ) (a b : ℕ) → a ≤ b → list_all (λ x. nat_le x a) xs ≡ true → list_all (λ x. nat_le x b) xs ≡ true
all_below [] a b h e = refl
all_below (x ∷ xs) a b h e =
    let low : x ≤ a = leb-true x a (and-left _ _ e) in
    both _ _ (le-leb x b (omega arith)) (all_below xs a b h (and-right _ _ e))

below_next : (c : Changed) (n : ℕ) (rs : List Range) (start : ℕ) → list_all (λ r. nat_le r.lo start) (next_ranges c n rs) ≡ list_all (λ r. nat_le r.lo start) rs
below_next c n [] start = refl
below_next c n (r ∷ rs) start = ap (λ b. nat_le r.lo start && b) (below_next c (n + 1) rs start)

opened_below : (opened : List (List ℕ)) (start : ℕ) → list_all (λ r. nat_le r.lo start) (opened_at opened start) ≡ true
opened_below [] start = refl
opened_below (x ∷ xs) start = both _ _ (le-leb start start (omega arith)) refl

opened_ranges : (opened : List (List ℕ)) (start : ℕ) → length opened ≤ 8 → list_all is_chain opened ≡ true → list_all is_range (opened_at opened start) ≡ true
opened_ranges [] start few chains = refl
opened_ranges (x ∷ xs) start few chains = both _ _ (both _ _ (is_within-from 1 8 (length (x ∷ xs)) (omega arith) few) chains) refl

opened_in_order : (los : List ℕ) (opened : List (List ℕ)) (start : ℕ) → never_falls los ≡ true → list_all (λ x. nat_le x start) los ≡ true
    → never_falls (los ++ map lo_of (opened_at opened start)) ≡ true
opened_in_order los [] start h e = ap never_falls (append-nil los) ∙ h
opened_in_order los (x ∷ xs) start h e = never_falls_last los start h e

still_at_zero : (c : Changed) (rs : List Range) (more : List Range) → 1 ≤ length rs → begins_at_zero rs ≡ true → begins_at_zero (next_ranges c 0 rs ++ more) ≡ true
still_at_zero c [] more some h = absurd (omega arith)
still_at_zero c (r ∷ rs) more some h = h

length-opened : (p : Layout) (c : Changed) (start : ℕ) → opens_too_many p c ≡ false → length p.ranges ≤ 32 → length p.ranges + length (opened_at c.opened start) ≤ 32
length-opened p c start h few = at c.opened h
  where
    at : (opened : List (List ℕ)) → (nat_lt 0 (length opened) && nat_le 32 (length p.ranges)) ≡ false → length p.ranges + length (opened_at opened start) ≤ 32
    at [] q = omega arith
    at (x ∷ xs) q =
        let some : nat_lt 0 (length (x ∷ xs)) ≡ true = lt-ltb 0 (length (x ∷ xs)) (omega arith) in
        let room : length p.ranges < 32 = leb-false 32 (length p.ranges) (sym (ap (λ b. b && nat_le 32 (length p.ranges)) some) ∙ q) in
        omega arith

length-next : (p : Layout) (c : Changed) (start : ℕ) → length (next_ranges c 0 p.ranges ++ opened_at c.opened start) ≡ length p.ranges + length (opened_at c.opened start)
length-next p c start =
    length-append (next_ranges c 0 p.ranges) (opened_at c.opened start) ∙ ap (λ n. n + length (opened_at c.opened start)) (length-next_ranges c 0 p.ranges)

los_below : (p : Layout) (start : ℕ) → IsLayout p → p.start ≤ start → list_all (λ x. nat_le x start) (map lo_of p.ranges) ≡ true
los_below p start h later =
    all_below (map lo_of p.ranges) p.start start later (list_all-map (λ x. nat_le x p.start) lo_of p.ranges ∙ (layout_rules p h).below_start)

pub next_keeps_rules : (p : Layout) (c : Changed) (by start : ℕ) → IsLayout p → IsChange c → MayFollow p c start → IsLayout (next_layout p c by start)
next_keeps_rules p c by start h g m =
    let old = layout_rules p h in
    let change = change_rules c g in
    let may = allowed p c m.allowed in
    let kept_ranges = next_ranges c 0 p.ranges in
    let more = opened_at c.opened start in
    let long = length-next p c start in
    let few = length-opened p c start may.few old.few in
    let los = los_below p start h m.later in
    IsLayout-from (next_layout p c by start) (record {
      epoch = omega arith;
      gone_units = gone_units p.gone c.drop old.gone_units change.drop_units;
      gone_rises = gone_rises p.gone c.drop old.gone_rises;
      some = omega (arith, old.some, long);
      few = omega (arith, few, long);
      ranges = list_all-append is_range kept_ranges more ∙ both _ _
          (all_pass is_range kept_ranges (λ i a d.
          let within : i < length p.ranges = subst (λ n. i < n) (length-next_ranges c 0 p.ranges) a in
          ap is_range (get_or-next_ranges c 0 p.ranges i d no_range within ∙ ap (λ n. next_range c n (range_at p.ranges i)) (zero-add i))
          ∙ next_is_range p c h g m.allowed i within))
          (opened_ranges c.opened start change.opened_few change.opened_chains);
      at_zero = still_at_zero c p.ranges more old.some old.at_zero;
      in_order = ap never_falls (map-append lo_of kept_ranges more ∙ ap (λ ls. ls ++ map lo_of more) (next_los c 0 p.ranges))
          ∙ opened_in_order (map lo_of p.ranges) c.opened start old.in_order los;
      below_start = list_all-append (λ r. nat_le r.lo start) kept_ranges more ∙ both _ _
          (below_next c 0 p.ranges start ∙ sym (list_all-map (λ x. nat_le x start) lo_of p.ranges) ∙ los)
          (opened_below c.opened start);
    })

-- ---- what stands where

range_after : (p : Layout) (c : Changed) (start n : ℕ) → n < length p.ranges → range_at (next_ranges c 0 p.ranges ++ opened_at c.opened start) n ≡ next_range c n (range_at p.ranges n)
range_after p c start n a =
    get_or_append_left (next_ranges c 0 p.ranges) (opened_at c.opened start) no_range n (subst (λ m. n < m) (sym (length-next_ranges c 0 p.ranges)) a)
    ∙ get_or-next_ranges c 0 p.ranges n no_range no_range a ∙ ap (λ m. next_range c m (range_at p.ranges n)) (zero-add n)

chain_after : (p : Layout) (c : Changed) (start n k : ℕ) → n < length p.ranges → k < length (range_at p.ranges n).stripes
    → chain_at (next_ranges c 0 p.ranges ++ opened_at c.opened start) n k ≡ next_chain c n k (chain_at p.ranges n k)
chain_after p c start n k a b =
    ap (λ r. get_or r.stripes k []) (range_after p c start n a)
    ∙ get_or-next_chains c n 0 (range_at p.ranges n).stripes k [] [] b ∙ ap (λ m. next_chain c n m (chain_at p.ranges n k)) (zero-add k)

-- a unit that comes in isn't gone
comes_new : (p : Layout) (c : Changed) → early_refusal p c ≡ None → (u : ℕ) → has (coming c) u ≡ true → has (next_gone p.gone c.drop) u ≡ false
comes_new p c e u h = has_gone p.gone c.drop u ∙ come_in p c e u h

or_later : (a b : Bool) → b ≡ true → (a || b) ≡ true
or_later true b h = refl
or_later false b h = h

or_first : (a b : Bool) → a ≡ true → (a || b) ≡ true
or_first true b h = refl
or_first false b h = absurd cc

joins : (p : Layout) (c : Changed) (by start : ℕ) → IsLayout p → early_refusal p c ≡ None → (join : Option Join) → c.join ≡ join → IfSome join (IsJoined p (next_layout p c by start))
joins p c by start h e None q = tt
joins p c by start h e (Some j) q =
    let may = join_allowed p c.drop j (subst (λ o. join_refusal p c.drop o ≡ None) q (allowed p c e).join) in
    let in_range : j.range < length p.ranges = omega (arith, may.closed) in
    let comes : has (coming c) j.unit ≡ true =
    list_any-append (λ y. y == j.unit) (concat c.opened) (joining c.join)
    ∙ or_later (has (concat c.opened) j.unit) _ (ap (λ o. has (joining o) j.unit) q ∙ or_first (j.unit == j.unit) false (exact-numbers.whole j.unit)) in
    record {
      closed = may.closed;
      there = may.there;
      not_gone = comes_new p c e j.unit comes;
      new = may.new;
      fits = subst (λ xs. length xs ≤ 5) (sym (chain_after p c start j.range j.stripe in_range may.there)) (ranges_fit p c h e j.range in_range j.stripe may.there);
    }

pub next_follows : (p : Layout) (c : Changed) (by start : ℕ) → IsLayout p → MayFollow p c start → Follows p c (next_layout p c by start)
next_follows p c by start h m =
    let old = layout_rules p h in
    let may = allowed p c m.allowed in
    let long = length-next p c start in
    let few = length-opened p c start may.few old.few in
    record {
      epoch = refl;
      in_place = λ n a. ap (λ r. r.lo) (range_after p c start n a);
      stripes = λ n a. ap (λ r. length r.stripes) (range_after p c start n a) ∙ length-next_chains c n 0 (range_at p.ranges n).stripes;
      chains = λ n k a b. chain_after p c start n k a b;
      left = λ n k a b. some_left p c m.allowed n k a b;
      join = joins p c by start h m.allowed c.join refl;
      further = ap (λ n. drop n (next_ranges c 0 p.ranges ++ opened_at c.opened start)) (sym (length-next_ranges c 0 p.ranges))
          ∙ drop-append_seam (next_ranges c 0 p.ranges) (opened_at c.opened start);
      opened = λ u q. comes_new p c m.allowed u (list_any-append (λ y. y == u) (concat c.opened) (joining c.join) ∙ or_first (has (concat c.opened) u) _ q);
      few = omega (arith, few, long);
      gone = λ u. has_gone p.gone c.drop u;
      rising = gone_rises p.gone c.drop old.gone_rises;
      start = m.later;
    }
