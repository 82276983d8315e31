-- What follows where nothing but an ack is wanting.
use Rattle.std.proofs.Common.{◌≡◌, ℕ, zero, suc, ◌+◌, ◌<◌, ◌≤◌, Bool, true, false, cond, not, ◌&&◌, ◌||◌, eqb, get_or, List, [], ◌∷◌, ◌++◌, length, Option, Some, None, refl, ap, sym, subst, ◌∙◌, arith, append-nil, length-append, max}
use Rattle.std.specs.Prelude.{find, option_map, if◌then◌else◌, ◌==◌}
use Rattle.std.specs.List.{position_from}
use Rattle.std.proofs.lemmas.Bool.{leb-false, eqb-true}
use Rattle.tg_base.specs.declared.layout.Range.{Range}
use Rattle.tg_base.specs.declared.change.Join.{Join}
use Rattle.tg_base.specs.declared.fault.Many.TheVariants.{Ranges}
use Rattle.tg_base.specs.Units.{has, is_chain}
use Rattle.tg_base.specs.Layouts.{Layout, IsLayout, is_range}
use Rattle.tg_base.specs.Changes.{Changed}
use Rattle.tg_base.proofs.Exact.{and-left, and-right}
use Rattle.tg_base.proofs.Rules.{layout_rules, chain_rules}
use Rattle.tg_proj.specs.declared.fault.ProjFault.{ProjFault}
use Rattle.tg_proj.specs.declared.fault.ProjFault.TheVariants.{NoReplica, Returned, TooMany}
use Rattle.tg_proj.specs.Places.{range_at, chain_at, no_range}
use Rattle.tg_proj.specs.Next.{kept, joined, RangesFit}
use Rattle.tg_proj.specs.Refusals.{Ack, first_some, on_test, opens_too_many, is_not_closed, has_no_stripe, stands_there, is_full, join_refusal, is_out, coming, is_lost, lost_refusal, early_refusal, new_start, is_about_acks}
use Rattle.tg_proj.proofs.Ranges.{each_passes, stripe_is_chain}

-- ---- none of several

none_first : {A : Type 0} (a b : Option A) → first_some a b ≡ None → a ≡ None
none_first None b h = refl
none_first (Some x) b h = absurd cc

none_second : {A : Type 0} (a b : Option A) → first_some a b ≡ None → b ≡ None
none_second None b h = h
none_second (Some x) b h = absurd cc

none_test : (b : Bool) (fault : ProjFault) → on_test b fault ≡ None → b ≡ false
none_test true fault h = absurd cc
none_test false fault h = refl

none_map : {A B : Type 0} (f : A → B) (o : Option A) → option_map f o ≡ None → o ≡ None
none_map f None h = refl
none_map f (Some x) h = absurd cc

none_if : (b : Bool) (x : ProjFault) (o : Option ProjFault) → (if b then Some x else o) ≡ None → b ≡ false
none_if true x o h = absurd cc
none_if false x o h = refl

none_else : (b : Bool) (x : ProjFault) (o : Option ProjFault) → (if b then Some x else o) ≡ None → o ≡ None
none_else true x o h = absurd cc
none_else false x o h = h

pub record Allowed (p : Layout) (c : Changed) : Type 0 where
  pub few : opens_too_many p c ≡ false
  pub join : join_refusal p c.drop c.join ≡ None
  pub back : find (is_out p c) (coming c) ≡ None
  pub lost : lost_refusal c.drop 0 p.ranges ≡ None

pub allowed : (p : Layout) (c : Changed) → early_refusal p c ≡ None → Allowed p c
allowed p c h =
    let h1 = none_second _ _ h in
    let h2 = none_second _ _ h1 in
    record {
      few = none_test _ _ (none_first _ _ h);
      join = none_first _ _ h1;
      back = none_map Returned _ (none_first _ _ h2);
      lost = none_second _ _ h2;
    }

-- ---- a join

pub record JoinAllowed (p : Layout) (dropped : List ℕ) (j : Join) : Type 0 where
  pub closed : j.range + 1 < length p.ranges
  pub there : j.stripe < length (range_at p.ranges j.range).stripes
  pub new : has (chain_at p.ranges j.range j.stripe) j.unit ≡ false
  pub room : length (kept dropped (chain_at p.ranges j.range j.stripe)) < 5

pub join_allowed : (p : Layout) (dropped : List ℕ) (j : Join) → join_refusal p dropped (Some j) ≡ None → JoinAllowed p dropped j
join_allowed p dropped j h =
    let h1 = none_else (is_not_closed p j) _ _ h in
    let h2 = none_else (has_no_stripe p j) _ _ h1 in
    let h3 = none_else (stands_there p j) _ _ h2 in
    record {
      closed = leb-false _ _ (none_if (is_not_closed p j) _ _ h);
      there = leb-false _ _ (none_if (has_no_stripe p j) _ _ h1);
      new = none_if (stands_there p j) _ _ h2;
      room = leb-false _ _ (none_if (is_full p dropped j) _ _ h3);
    }

-- ---- how long a chain becomes

length-kept : (dropped chain : List ℕ) → length (kept dropped chain) ≤ length chain
length-kept dropped [] = omega arith
length-kept dropped (u ∷ us) = at (not (has dropped u)) (length-kept dropped us)
  where
    at : (b : Bool) → length (kept dropped us) ≤ length us → length (cond b (u ∷ kept dropped us) (kept dropped us)) ≤ length (u ∷ us)
    at true h = omega arith
    at false h = omega arith

joined_fits : (p : Layout) (dropped : List ℕ) (join : Option Join) → join_refusal p dropped join ≡ None → (n k : ℕ) → length (kept dropped (chain_at p.ranges n k)) ≤ 5
    → length (kept dropped (chain_at p.ranges n k) ++ joined join n k) ≤ 5
joined_fits p dropped None h n k short = subst (λ xs. length xs ≤ 5) (sym (append-nil (kept dropped (chain_at p.ranges n k)))) short
joined_fits p dropped (Some j) h n k short = at (j.range == n && j.stripe == k) refl
  where
    units : List ℕ
    units = kept dropped (chain_at p.ranges n k)

    at : (b : Bool) → (j.range == n && j.stripe == k) ≡ b → length (kept dropped (chain_at p.ranges n k) ++ (if b then j.unit ∷ [] else [])) ≤ 5
    at false q = subst (λ xs. length xs ≤ 5) (sym (append-nil (kept dropped (chain_at p.ranges n k)))) short
    at true q =
        let range : j.range ≡ n = eqb-true j.range n (and-left _ _ q) in
        let stripe : j.stripe ≡ k = eqb-true j.stripe k (and-right _ _ q) in
        let room = (join_allowed p dropped j h).room in
        let here : length (kept dropped (chain_at p.ranges n k)) < 5 = subst (λ m. length (kept dropped (chain_at p.ranges m k)) < 5) range (subst (λ m. length (kept dropped (chain_at p.ranges j.range m)) < 5) stripe room) in
        let long = length-append (kept dropped (chain_at p.ranges n k)) (j.unit ∷ []) in
        omega (arith, here, long)

pub stripe_rules : (p : Layout) → IsLayout p → (n k : ℕ) → n < length p.ranges → k < length (range_at p.ranges n).stripes → is_chain (chain_at p.ranges n k) ≡ true
stripe_rules p h n k a b = stripe_is_chain (range_at p.ranges n) (each_passes is_range p.ranges n no_range a (layout_rules p h).ranges) k [] b

pub ranges_fit : (p : Layout) (c : Changed) → IsLayout p → early_refusal p c ≡ None → RangesFit c p.ranges
ranges_fit p c h e n a k b =
    let chain = chain_rules (chain_at p.ranges n k) (stripe_rules p h n k a b) in
    let short = length-kept c.drop (chain_at p.ranges n k) in
    joined_fits p c.drop c.join (allowed p c e).join n k (omega (arith, chain.few, short))

-- ---- the new start

pub later_start : (start : ℕ) (acks : List Ack) → start ≤ new_start start acks
later_start start [] = omega arith
later_start start (a ∷ acks) =
    let rest = later_start (max start a.1) acks in
    omega (arith, rest)

-- ---- no early refusal is about acks

abbrev is_told : Option ProjFault → Bool
is_told None = false
is_told (Some fault) = is_about_acks fault

told_first : (a b : Option ProjFault) → is_told a ≡ false → is_told b ≡ false → is_told (first_some a b) ≡ false
told_first None b h e = e
told_first (Some x) b h e = h

told_if : (b : Bool) (x : ProjFault) (o : Option ProjFault) → is_about_acks x ≡ false → is_told o ≡ false → is_told (if b then Some x else o) ≡ false
told_if true x o h e = h
told_if false x o h e = e

told_test : (b : Bool) → is_told (on_test b (TooMany Ranges)) ≡ false
told_test true = refl
told_test false = refl

told_join : (p : Layout) (dropped : List ℕ) (join : Option Join) → is_told (join_refusal p dropped join) ≡ false
told_join p dropped None = refl
told_join p dropped (Some j) =
    told_if (is_not_closed p j) _ _ refl (told_if (has_no_stripe p j) _ _ refl (told_if (stands_there p j) _ _ refl (told_if (is_full p dropped j) _ _ refl refl)))

told_returned : (o : Option ℕ) → is_told (option_map Returned o) ≡ false
told_returned None = refl
told_returned (Some u) = refl

told_lost : (dropped : List ℕ) (n : ℕ) (ranges : List Range) → is_told (lost_refusal dropped n ranges) ≡ false
told_lost dropped n [] = refl
told_lost dropped n (r ∷ rs) = told_first _ _ (here (position_from (is_lost dropped) 0 r.stripes)) (told_lost dropped (n + 1) rs)
  where
    here : (o : Option ℕ) → is_told (option_map (λ k. NoReplica n k) o) ≡ false
    here None = refl
    here (Some k) = refl

pub not_about_acks : (p : Layout) (c : Changed) (fault : ProjFault) → early_refusal p c ≡ Some fault → is_about_acks fault ≡ true → ⊥
not_about_acks p c fault e t =
    let no : is_told (early_refusal p c) ≡ false =
    told_first _ _ (told_test (opens_too_many p c)) (told_first _ _ (told_join p c.drop c.join) (told_first _ _ (told_returned (find (is_out p c) (coming c))) (told_lost c.drop 0 p.ranges))) in
    let yes : is_told (early_refusal p c) ≡ true = ap is_told e ∙ t in
    let both : true ≡ false = sym yes ∙ no in
    absurd cc

-- ---- no stripe is lost

none_at : {A : Type 0} (test : A → Bool) (n : ℕ) (xs : List A) (k : ℕ) (d : A) → position_from test n xs ≡ None → k < length xs → test (get_or xs k d) ≡ false
none_at test n [] k d h q = absurd (omega arith)
none_at test n (x ∷ xs) zero d h q = at (test x) h
  where
    at : (b : Bool) → cond b (Some n) (position_from test (n + 1) xs) ≡ None → b ≡ false
    at true h = absurd cc
    at false h = refl
none_at test n (x ∷ xs) (suc k) d h q = none_at test (n + 1) xs k d (at (test x) h) (omega arith)
  where
    at : (b : Bool) → cond b (Some n) (position_from test (n + 1) xs) ≡ None → position_from test (n + 1) xs ≡ None
    at true h = absurd cc
    at false h = h

some_stay : (dropped : List ℕ) (n : ℕ) (ranges : List Range) → lost_refusal dropped n ranges ≡ None → (i k : ℕ) → i < length ranges → k < length (range_at ranges i).stripes
    → is_lost dropped (chain_at ranges i k) ≡ false
some_stay dropped n [] h i k a b = absurd (omega arith)
some_stay dropped n (r ∷ rs) h zero k a b = none_at (is_lost dropped) 0 r.stripes k [] (none_map (λ m. NoReplica n m) _ (none_first _ _ h)) b
some_stay dropped n (r ∷ rs) h (suc i) k a b = some_stay dropped (n + 1) rs (none_second _ _ h) i k (omega arith) b

not_zero : (n : ℕ) → eqb n 0 ≡ false → 1 ≤ n
not_zero zero h = absurd cc
not_zero (suc n) h = omega arith

pub some_left : (p : Layout) (c : Changed) → early_refusal p c ≡ None → (n k : ℕ) → n < length p.ranges → k < length (range_at p.ranges n).stripes
    → 1 ≤ length (kept c.drop (chain_at p.ranges n k))
some_left p c h n k a b = not_zero (length (kept c.drop (chain_at p.ranges n k))) (some_stay c.drop 0 p.ranges (allowed p c h).lost n k a b)

-- ---- none of the units that come in is out

none_found : (test : ℕ → Bool) (xs : List ℕ) (u : ℕ) → find test xs ≡ None → has xs u ≡ true → test u ≡ false
none_found test [] u h e = absurd cc
none_found test (x ∷ xs) u h e = at (eqb x u) refl (λ k. none_found test xs u (passed (test x) h) k) e
  where
    passed : (b : Bool) → cond b (Some x) (find test xs) ≡ None → find test xs ≡ None
    passed true h = absurd cc
    passed false h = h

    failed : (b : Bool) → cond b (Some x) (find test xs) ≡ None → b ≡ false
    failed true h = absurd cc
    failed false h = refl

    at : (d : Bool) → eqb x u ≡ d → (has xs u ≡ true → test u ≡ false) → (d || has xs u) ≡ true → test u ≡ false
    at true r later e = subst (λ z. test z ≡ false) (eqb-true x u r) (failed (test x) h)
    at false r later e = later e

pub come_in : (p : Layout) (c : Changed) → early_refusal p c ≡ None → (u : ℕ) → has (coming c) u ≡ true → is_out p c u ≡ false
come_in p c h u e = none_found (is_out p c) (coming c) u (allowed p c h).back e
