-- A layout and the one that a change makes of it: which units stay in the chain of a position.
use Rattle.std.proofs.Common.{◌≡◌, ◌⊎◌, ℕ, zero, suc, ◌+◌, ◌-◌, ◌%◌, ◌<◌, ◌≤◌, Bool, true, false, cond, not, List, [], ◌∷◌, ◌++◌, length, get_or, refl, sym, ap, ◌∙◌, subst, inl, inr, arith, Some, None, Option, filter, length-append}
use Rattle.std.specs.Prelude.{slice_index, IfSome, if◌then◌else◌, ◌&&◌, ◌||◌, ◌==◌}
use Rattle.std.specs.List.{concat}
use Rattle.std.proofs.Math.Nat.{mod-lt}
use Rattle.std.proofs.lemmas.List.{get_or_append_left, get_or-append_right}
use Rattle.tg_base.specs.declared.layout.Range.{Range}
use Rattle.tg_base.specs.declared.change.Join.{Join}
use Rattle.tg_base.specs.Units.{has, is_distinct}
use Rattle.tg_base.specs.Layouts.{Layout, IsLayout}
use Rattle.tg_base.specs.Changes.{Changed}
use Rattle.tg_base.proofs.Exact.{and-left, and-right}
use Rattle.tg_base.proofs.Rules.{layout_rules, chain_rules}
use Rattle.tg_proj.specs.Places.{no_range, range_at, chain_at, stripe_number, range_number, IsRangeOf}
use Rattle.tg_proj.specs.Next.{kept, joined, next_ranges, opened_at}
use Rattle.tg_proj.specs.Refusals.{units_of}
use Rattle.tg_proj.specs.Follows.{Follows, IsJoined}
use Rattle.tg_proj.proofs.Ranges.{range_found, each_passes, some_stripe}
use Rattle.tg_proj.proofs.Chains.{length-next_ranges, units_of-append, units_of-opened}
use Rattle.tg_proj.proofs.Allowed.{stripe_rules}
use Rattle.tg_protocol.specs.Units.{how_many}
use Rattle.tg_protocol.specs.Layouts.{chain_of, range_end}
use Rattle.tg_law_layouts.proofs.Moves.Units.{InSteps}
use Rattle.tg_law_cells.proofs.Cells.Stripes.{in_stripe}
use Rattle.tg_law_layouts.proofs.Moves.Members.{Has, has_left, has_right, has_either, has_filter, found, passes_somewhere}
use Rattle.tg_law_cells.proofs.Cells.Befores.{Before, has_at, before_has}
use Rattle.tg_law_cells.proofs.Cells.Settles.{Words, Next}

-- Lists.

equal : (a b : ℕ) → (a == b) ≡ true → a ≡ b
equal a b h = grind arith

same : (u : ℕ) → (u == u) ≡ true
same u = grind arith

contrary : (b : Bool) → b ≡ true → b ≡ false → ⊥
contrary b e f = cc

pub has_true : (xs : List ℕ) (u : ℕ) → Has xs u → has xs u ≡ true
has_true xs u h = passes_somewhere (λ y. y == u) xs u h (same u)

pub true_has : (xs : List ℕ) (u : ℕ) → has xs u ≡ true → Has xs u
true_has xs u h = let f = found (λ y. y == u) xs h in subst (λ x. Has xs x) (equal f.it u f.passes) f.has

filtered : (t : Bool) (x u : ℕ) (xs : List ℕ) → t ≡ true → u ≡ x → Has (cond t (x ∷ xs) xs) u
filtered true x u xs e i = inl i
filtered false x u xs e i = absurd (cc)

later : (t : Bool) (x u : ℕ) (xs : List ℕ) → Has xs u → Has (cond t (x ∷ xs) xs) u
later true x u xs h = inr h
later false x u xs h = h

passing : (f : ℕ → Bool) (xs : List ℕ) (u : ℕ) → Has xs u → f u ≡ true → Has (filter f xs) u
passing f [] u h e = absurd h
passing f (x ∷ xs) u (inl i) e = filtered (f x) x u (filter f xs) (subst (λ y. f y ≡ true) i e) i
passing f (x ∷ xs) u (inr h) e = later (f x) x u (filter f xs) (passing f xs u h e)

passed_by : (b : Bool) (f : ℕ → Bool) (x : ℕ) (xs : List ℕ) (u : ℕ) → f x ≡ b → (Has (filter f xs) u → f u ≡ true) → Has (cond b (x ∷ filter f xs) (filter f xs)) u → f u ≡ true
passed_by true f x xs u e rest (inl i) = subst (λ y. f y ≡ true) (sym i) e
passed_by true f x xs u e rest (inr g) = rest g
passed_by false f x xs u e rest g = rest g

passed : (f : ℕ → Bool) (xs : List ℕ) (u : ℕ) → Has (filter f xs) u → f u ≡ true
passed f [] u h = absurd h
passed f (x ∷ xs) u h = passed_by (f x) f x xs u refl (λ g. passed f xs u g) h

before_filtered : (t : Bool) (f : ℕ → Bool) (x : ℕ) (xs : List ℕ) (w v : ℕ) → (Before (filter f xs) w v → Before xs w v) → Before (cond t (x ∷ filter f xs) (filter f xs)) w v → Before (x ∷ xs) w v
before_filtered true f x xs w v rest (inl b) = inl (b.0, has_filter f xs v b.1)
before_filtered true f x xs w v rest (inr b) = inr (rest b)
before_filtered false f x xs w v rest b = inr (rest b)

before_filter : (f : ℕ → Bool) (xs : List ℕ) (w v : ℕ) → Before (filter f xs) w v → Before xs w v
before_filter f [] w v b = b
before_filter f (x ∷ xs) w v b = before_filtered (f x) f x xs w v (λ c. before_filter f xs w v c) b

before_more : (x : ℕ) (xs ys : List ℕ) (w v : ℕ) → Before xs w v ⊎ Has ys v → Before (x ∷ xs) w v ⊎ Has ys v
before_more x xs ys w v (inl b) = inl (inr b)
before_more x xs ys w v (inr h) = inr h

before_first : (x : ℕ) (xs ys : List ℕ) (w v : ℕ) → w ≡ x → Has xs v ⊎ Has ys v → Before (x ∷ xs) w v ⊎ Has ys v
before_first x xs ys w v e (inl h) = inl (inl (e, h))
before_first x xs ys w v e (inr h) = inr h

before_either : (xs ys : List ℕ) (w v : ℕ) → Before (xs ++ ys) w v → Before xs w v ⊎ Has ys v
before_either [] ys w v b = inr (before_has ys w v b)
before_either (x ∷ xs) ys w v (inl b) = before_first x xs ys w v b.0 (has_either xs ys v b.1)
before_either (x ∷ xs) ys w v (inr b) = before_more x xs ys w v (before_either xs ys w v b)

not_true : (b : Bool) → not b ≡ true → b ≡ false
not_true b h = grind arith

pub distinct_once : (xs : List ℕ) (u : ℕ) → is_distinct xs ≡ true → Before xs u u → ⊥
distinct_once [] u d b = b
distinct_once (x ∷ xs) u d (inl b) = contrary (has xs x) (has_true xs x (subst (λ y. Has xs y) b.0 b.1)) (not_true (has xs x) (and-left _ _ d))
distinct_once (x ∷ xs) u d (inr b) = distinct_once xs u (and-right _ _ d) b

-- Units in ranges.

concat_has : (cs : List (List ℕ)) (k u : ℕ) → k < length cs → Has (get_or cs k []) u → Has (concat cs) u
concat_has [] k u less h = absurd (omega (arith, less))
concat_has (c ∷ cs) zero u less h = has_left c (concat cs) u h
concat_has (c ∷ cs) (suc k) u less h = has_right c (concat cs) u (concat_has cs k u (omega (arith, less)) h)

pub units_has : (rs : List Range) (n k u : ℕ) → n < length rs → k < length (range_at rs n).stripes → Has (chain_at rs n k) u → Has (units_of rs) u
units_has [] n k u a b h = absurd (omega (arith, a))
units_has (r ∷ rs) zero k u a b h = has_left (concat r.stripes) (units_of rs) u (concat_has r.stripes k u b h)
units_has (r ∷ rs) (suc n) k u a b h = has_right (concat r.stripes) (units_of rs) u (units_has rs n k u (omega (arith, a)) b h)

pub record InChain (rs : List Range) (u : ℕ) : Type 0 where
  pub range : ℕ
  pub stripe : ℕ
  pub ranges : range < length rs
  pub stripes : stripe < length (range_at rs range).stripes
  pub has : Has (chain_at rs range stripe) u

record InStripes (cs : List (List ℕ)) (u : ℕ) : Type 0 where
  stripe : ℕ
  less : stripe < length cs
  has : Has (get_or cs stripe []) u

stripes_more : (c : List ℕ) (cs : List (List ℕ)) (u : ℕ) → InStripes cs u → InStripes (c ∷ cs) u
stripes_more c cs u i = record { stripe = suc i.stripe; less = (let l = i.less in omega (arith, l)); has = i.has }

stripes_by : (c : List ℕ) (cs : List (List ℕ)) (u : ℕ) → (Has (concat cs) u → InStripes cs u) → Has c u ⊎ Has (concat cs) u → InStripes (c ∷ cs) u
stripes_by c cs u rest (inl g) = record { stripe = 0; less = omega arith; has = g }
stripes_by c cs u rest (inr g) = stripes_more c cs u (rest g)

in_stripes : (cs : List (List ℕ)) (u : ℕ) → Has (concat cs) u → InStripes cs u
in_stripes [] u h = absurd h
in_stripes (c ∷ cs) u h = stripes_by c cs u (λ g. in_stripes cs u g) (has_either c (concat cs) u h)

chain_more : (r : Range) (rs : List Range) (u : ℕ) → InChain rs u → InChain (r ∷ rs) u
chain_more r rs u i = record { range = suc i.range; stripe = i.stripe; ranges = (let l = i.ranges in omega (arith, l)); stripes = i.stripes; has = i.has }

first_chain : (r : Range) (rs : List Range) (u : ℕ) → InStripes r.stripes u → InChain (r ∷ rs) u
first_chain r rs u i = record { range = 0; stripe = i.stripe; ranges = omega arith; stripes = i.less; has = i.has }

chain_by : (r : Range) (rs : List Range) (u : ℕ) → (Has (units_of rs) u → InChain rs u) → Has (concat r.stripes) u ⊎ Has (units_of rs) u → InChain (r ∷ rs) u
chain_by r rs u rest (inl g) = first_chain r rs u (in_stripes r.stripes u g)
chain_by r rs u rest (inr g) = chain_more r rs u (rest g)

pub in_chain : (rs : List Range) (u : ℕ) → Has (units_of rs) u → InChain rs u
in_chain [] u h = absurd h
in_chain (r ∷ rs) u h = chain_by r rs u (λ g. in_chain rs u g) (has_either (concat r.stripes) (units_of rs) u h)

-- The place of a position.

pub record PlaceOf (p : Layout) (pos : ℕ) : Type 0 where
  pub range : ℕ
  pub is : IsRangeOf p.ranges pos range
  pub stripe : ℕ
  pub stripe_is : stripe ≡ stripe_number (range_at p.ranges range) pos
  pub less : stripe < length (range_at p.ranges range).stripes
  pub chain : chain_of p pos ≡ chain_at p.ranges range stripe

pub place_of : (p : Layout) (pos : ℕ) → IsLayout p → PlaceOf p pos
unfolding chain_of
place_of p pos h =
    let n = range_number p.ranges pos in
    let f = range_found p pos h in
    let some = some_stripe (range_at p.ranges n) (each_passes _ p.ranges n no_range f.there (layout_rules p h).ranges) in
    record { range = n; is = f; stripe = stripe_number (range_at p.ranges n) pos; stripe_is = refl; less = mod-lt _ (omega (arith, some)); chain = refl }

-- The words of the argument.

abbrev pub words : Words
words = record {
  Stands = λ q u. Has (units_of q.ranges) u;
  Gone = λ q u. has q.gone u ≡ true;
  Joins = λ p q pos u. Has (chain_of q pos) u × (Has (chain_of p pos) u → ⊥) × (has p.gone u ≡ true → ⊥);
}

pub stands_there : (q : Layout) (pos u : ℕ) → IsLayout q → Has (chain_of q pos) u → Has (units_of q.ranges) u
stands_there q pos u h g = let a = place_of q pos h in units_has q.ranges a.range a.stripe u a.is.there a.less (subst (λ xs. Has xs u) a.chain g)

pub single_there : (q : Layout) (pos u : ℕ) → IsLayout q → Before (chain_of q pos) u u → ⊥
single_there q pos u h b = let a = place_of q pos h in distinct_once (chain_at q.ranges a.range a.stripe) u (chain_rules (chain_at q.ranges a.range a.stripe) (stripe_rules q h a.range a.stripe a.is.there a.less)).distinct (subst (λ xs. Before xs u u) a.chain b)

pub some_there : (q : Layout) (pos : ℕ) → IsLayout q → 0 < length (chain_of q pos)
some_there q pos h = let a = place_of q pos h in let s = (chain_rules (chain_at q.ranges a.range a.stripe) (stripe_rules q h a.range a.stripe a.is.there a.less)).some in subst (λ xs. 0 < length xs) (sym a.chain) (omega (arith, s))

opened_lo : (cs : List (List ℕ)) (start i : ℕ) → i < length (opened_at cs start) → (range_at (opened_at cs start) i).lo ≡ start
opened_lo [] start i less = absurd (omega (arith, less))
opened_lo (c ∷ cs) start zero less = refl
opened_lo (c ∷ cs) start (suc i) less = absurd (omega (arith, less))

less_or : (a b : ℕ) → (a < b) ⊎ (a ≡ b) ⊎ (b < a)
less_or a b = grind arith

both_or : (a b : Bool) → (a || b) ≡ false → (a ≡ false) × (b ≡ false)
both_or a b h = grind arith

or_left : (a b : Bool) → a ≡ true → (a || b) ≡ true
or_left a b h = grind arith

or_right : (a b : Bool) → b ≡ true → (a || b) ≡ true
or_right a b h = grind arith

not_false : (b : Bool) → b ≡ false → not b ≡ true
not_false b h = grind arith

-- the join of a unit that joins the chain of a position, which is one of those that it was asked for
pub record JoinsAt (p : Layout) (c : Changed) (pos u : ℕ) : Type 0 where
  pub join : Join
  pub is : c.join ≡ Some join
  pub unit : join.unit ≡ u
  pub steps : InSteps (length (range_at p.ranges join.range).stripes) (how_many ((range_at p.ranges join.range).lo + join.stripe) (range_end p join.range) (length (range_at p.ranges join.range).stripes)) ((range_at p.ranges join.range).lo + join.stripe) pos

module _ (p : Layout) (c : Changed) (q : Layout) (f : Follows p c q) (before : IsLayout p) (after : IsLayout q) (ranges : q.ranges ≡ next_ranges c 0 p.ranges ++ opened_at c.opened q.start) where
  long : length q.ranges ≡ length p.ranges + length (opened_at c.opened q.start)
  long = ap length ranges ∙ (length-append (next_ranges c 0 p.ranges) (opened_at c.opened q.start) ∙ ap (λ n. n + length (opened_at c.opened q.start)) (length-next_ranges c 0 p.ranges))

  -- a range past the old ones begins at the start
  past : (n : ℕ) → length p.ranges ≤ n → n < length q.ranges → (range_at q.ranges n).lo ≡ q.start
  past n le less =
      ap (λ (rs : List Range). (range_at rs n).lo) ranges
      ∙ (ap (λ (r : Range). r.lo) (get_or-append_right (next_ranges c 0 p.ranges) (opened_at c.opened q.start) (length p.ranges) n no_range (length-next_ranges c 0 p.ranges) le)
      ∙ opened_lo c.opened q.start (n - length p.ranges) (omega (arith, le, less, long)))

  same_range : (pos n k : ℕ) → pos < q.start → IsRangeOf p.ranges pos n → IsRangeOf q.ranges pos k → k ≡ n
  same_range pos n k below a b = by (less_or k n)
    where
      inside : k < length p.ranges
      inside = in_or (less_or k (length p.ranges))
        where
          beyond : length p.ranges ≤ k → ⊥
          beyond le = let l = past k le b.there in let r = b.reached in omega (arith, l, r, below)

          in_or : (k < length p.ranges) ⊎ (k ≡ length p.ranges) ⊎ (length p.ranges < k) → k < length p.ranges
          in_or (inl x) = x
          in_or (inr (inl x)) = absurd (beyond (omega (arith, x)))
          in_or (inr (inr x)) = absurd (beyond (omega (arith, x)))

      by : (k < n) ⊎ (k ≡ n) ⊎ (n < k) → k ≡ n
      by (inl x) = let t = a.there in let l = b.last n x (omega (arith, t, long)) in let e = f.in_place n a.there in let r = a.reached in absurd (omega (arith, l, e, r))
      by (inr (inl x)) = x
      by (inr (inr x)) = let l = a.last k x inside in let e = f.in_place k inside in let r = b.reached in absurd (omega (arith, l, e, r))

  -- the chain of a position below the start
  pub record ChainNow (pos : ℕ) : Type 0 where
    pub range : ℕ
    pub stripe : ℕ
    pub there : range < length p.ranges
    pub less : stripe < length (range_at p.ranges range).stripes
    pub at : IsRangeOf p.ranges pos range
    pub stripe_is : stripe ≡ stripe_number (range_at p.ranges range) pos
    pub old : chain_of p pos ≡ chain_at p.ranges range stripe
    pub now : chain_of q pos ≡ kept c.drop (chain_at p.ranges range stripe) ++ joined c.join range stripe

  pub chain_now : (pos : ℕ) → pos < q.start → ChainNow pos
  chain_now pos below =
      let a = place_of p pos before in
      let b = place_of q pos after in
      let e = same_range pos a.range b.range below a.is b.is in
      let lo = f.in_place a.range a.is.there in
      let n = f.stripes a.range a.is.there in
      let number : stripe_number (range_at q.ranges a.range) pos ≡ stripe_number (range_at p.ranges a.range) pos = ap (λ l. (pos - l) % length (range_at q.ranges a.range).stripes) lo ∙ ap (λ k. (pos - (range_at p.ranges a.range).lo) % k) n in
      let stripe : b.stripe ≡ a.stripe = b.stripe_is ∙ (ap (λ k. stripe_number (range_at q.ranges k) pos) e ∙ (number ∙ sym a.stripe_is)) in
      record {
        range = a.range;
        stripe = a.stripe;
        there = a.is.there;
        less = a.less;
        at = a.is;
        stripe_is = a.stripe_is;
        old = a.chain;
        now = b.chain ∙ (ap (λ k. chain_at q.ranges k b.stripe) e ∙ (ap (λ k. chain_at q.ranges a.range k) stripe ∙ f.chains a.range a.stripe a.is.there a.less));
      }

  -- a unit that joins is new and not gone
  joined_new : (n k v : ℕ) → Has (joined c.join n k) v → (has (chain_at p.ranges n k) v ≡ false) × (has q.gone v ≡ false)
  joined_new n k v h = by c.join f.join h
    where
      at : (j : Join) (b : Bool) → (j.range == n && j.stripe == k) ≡ b → IsJoined p q j → Has (if b then j.unit ∷ [] else []) v → (has (chain_at p.ranges n k) v ≡ false) × (has q.gone v ≡ false)
      at j true e i (inl u) = (
        subst (λ x. has (chain_at p.ranges n k) x ≡ false) (sym u) (subst (λ m. has (chain_at p.ranges m k) j.unit ≡ false) (equal j.range n (and-left _ _ e)) (subst (λ m. has (chain_at p.ranges j.range m) j.unit ≡ false) (equal j.stripe k (and-right _ _ e)) i.new)),
        subst (λ x. has q.gone x ≡ false) (sym u) i.not_gone,
      )
      at j true e i (inr u) = absurd u
      at j false e i u = absurd u

      by : (o : Option Join) → IfSome o (IsJoined p q) → Has (joined o n k) v → (has (chain_at p.ranges n k) v ≡ false) × (has q.gone v ≡ false)
      by None i g = absurd g
      by (Some j) i g = at j (j.range == n && j.stripe == k) refl i g

  gone_later : (u : ℕ) → has p.gone u ≡ true → has q.gone u ≡ true
  gone_later u h = f.gone u ∙ or_left (has p.gone u) (has c.drop u) h

  -- a unit of an old chain is in the new one, or dropped
  stays_in : (n k u : ℕ) → Has (chain_at p.ranges n k) u → Has (kept c.drop (chain_at p.ranges n k)) u ⊎ (has q.gone u ≡ true)
  stays_in n k u h = by (has c.drop u) refl
    where
      by : (b : Bool) → has c.drop u ≡ b → Has (kept c.drop (chain_at p.ranges n k)) u ⊎ (has q.gone u ≡ true)
      by true e = inr (f.gone u ∙ or_right (has p.gone u) (has c.drop u) e)
      by false e = inl (passing (λ v. not (has c.drop v)) (chain_at p.ranges n k) u h (not_false (has c.drop u) e))

  -- where a unit of an old chain stands now
  still_stands : (n k u : ℕ) → n < length p.ranges → k < length (range_at p.ranges n).stripes → Has (kept c.drop (chain_at p.ranges n k)) u → Has (units_of q.ranges) u
  still_stands n k u a b h = units_has q.ranges n k u (omega (arith, a, long)) (let s = f.stripes n a in omega (arith, b, s)) (subst (λ xs. Has xs u) (sym (f.chains n k a b)) (has_left _ _ u h))

  stays : (u : ℕ) → Has (units_of p.ranges) u → Has (units_of q.ranges) u ⊎ (has q.gone u ≡ true)
  stays u h = let i = in_chain p.ranges u h in by i (stays_in i.range i.stripe u i.has)
    where
      by : (i : InChain p.ranges u) → Has (kept c.drop (chain_at p.ranges i.range i.stripe)) u ⊎ (has q.gone u ≡ true) → Has (units_of q.ranges) u ⊎ (has q.gone u ≡ true)
      by i (inl x) = inl (still_stands i.range i.stripe u i.ranges i.stripes x)
      by i (inr x) = inr x

  left_of : (pos : ℕ) → (u : ℕ) × Has (chain_of p pos) u × Has (units_of q.ranges) u
  left_of pos =
      let a = place_of p pos before in
      let xs = kept c.drop (chain_at p.ranges a.range a.stripe) in
      let h : Has xs (slice_index xs 0) = has_at xs 0 (f.left a.range a.stripe a.is.there a.less) in
      (slice_index xs 0, subst (λ ys. Has ys (slice_index xs 0)) (sym a.chain) (has_filter _ (chain_at p.ranges a.range a.stripe) _ h), still_stands a.range a.stripe _ a.is.there a.less h)

  kept_in : (pos u : ℕ) → pos < q.start → Has (chain_of p pos) u → Has (chain_of q pos) u ⊎ (has q.gone u ≡ true)
  kept_in pos u below h = let a = chain_now pos below in by a (stays_in a.range a.stripe u (subst (λ xs. Has xs u) a.old h))
    where
      by : (a : ChainNow pos) → Has (kept c.drop (chain_at p.ranges a.range a.stripe)) u ⊎ (has q.gone u ≡ true) → Has (chain_of q pos) u ⊎ (has q.gone u ≡ true)
      by a (inl x) = inl (subst (λ xs. Has xs u) (sym a.now) (has_left _ _ u x))
      by a (inr x) = inr x

  old_or_joins : (pos u : ℕ) → pos < q.start → Has (chain_of q pos) u → Has (chain_of p pos) u ⊎ words.Joins p q pos u
  old_or_joins pos u below h = let a = chain_now pos below in by a (has_either _ _ u (subst (λ xs. Has xs u) a.now h))
    where
      by : (a : ChainNow pos) → Has (kept c.drop (chain_at p.ranges a.range a.stripe)) u ⊎ Has (joined c.join a.range a.stripe) u → Has (chain_of p pos) u ⊎ words.Joins p q pos u
      by a (inl x) = inl (subst (λ xs. Has xs u) (sym a.old) (has_filter _ (chain_at p.ranges a.range a.stripe) u x))
      by a (inr x) =
          let n = joined_new a.range a.stripe u x in
          inr (h, (λ g. contrary _ (has_true _ u (subst (λ xs. Has xs u) a.old g)) n.0), (λ g. contrary _ (gone_later u g) n.1))

  pub joins_at : (pos u : ℕ) → pos < q.start → Has (chain_of q pos) u → (Has (chain_of p pos) u → ⊥) → JoinsAt p c pos u
  joins_at pos u below h new = let a = chain_now pos below in by a (has_either _ _ u (subst (λ xs. Has xs u) a.now h))
    where
      steps : (a : ChainNow pos) (j : Join) → IsJoined p q j → j.range ≡ a.range → j.stripe ≡ a.stripe
          → InSteps (length (range_at p.ranges j.range).stripes) (how_many ((range_at p.ranges j.range).lo + j.stripe) (range_end p j.range) (length (range_at p.ranges j.range).stripes)) ((range_at p.ranges j.range).lo + j.stripe) pos
      steps a j i e f =
          let there = i.there in
          in_stripe (range_at p.ranges j.range).lo (range_end p j.range) (length (range_at p.ranges j.range).stripes) j.stripe pos (omega (arith, there))
          (subst (λ (n : ℕ). (range_at p.ranges n).lo ≤ pos) (sym e) a.at.reached)
          (a.at.last (j.range + 1) (omega (arith, e)) i.closed)
          (f ∙ (a.stripe_is ∙ ap (λ (n : ℕ). stripe_number (range_at p.ranges n) pos) (sym e)))

      at : (a : ChainNow pos) (o : Option Join) → c.join ≡ o → IfSome o (IsJoined p q) → (j : Join) → o ≡ Some j → (b : Bool) → (j.range == a.range && j.stripe == a.stripe) ≡ b → Has (if b then j.unit ∷ [] else []) u → JoinsAt p c pos u
      at a None e i j f b g h = absurd (cc)
      at a (Some k) e i j f true g (inl x) = record { join = j; is = e ∙ f; unit = sym x; steps = steps a j (subst (λ (z : Join). IsJoined p q z) (same_join k j f) i) (equal j.range a.range (and-left _ _ g)) (equal j.stripe a.stripe (and-right _ _ g)) }
        where
          same_join : (x y : Join) → Some x ≡ Some y → x ≡ y
          same_join x y e = cc
      at a (Some k) e i j f true g (inr x) = absurd x
      at a (Some k) e i j f false g x = absurd x

      joins : (a : ChainNow pos) (o : Option Join) → c.join ≡ o → IfSome o (IsJoined p q) → Has (joined o a.range a.stripe) u → JoinsAt p c pos u
      joins a None e i x = absurd x
      joins a (Some j) e i x = at a (Some j) e i j refl (j.range == a.range && j.stripe == a.stripe) refl x

      by : (a : ChainNow pos) → Has (kept c.drop (chain_at p.ranges a.range a.stripe)) u ⊎ Has (joined c.join a.range a.stripe) u → JoinsAt p c pos u
      by a (inl x) = absurd (new (subst (λ xs. Has xs u) (sym a.old) (has_filter _ (chain_at p.ranges a.range a.stripe) u x)))
      by a (inr x) = joins a c.join refl f.join x

  in_order : (pos w v : ℕ) → pos < q.start → Before (chain_of q pos) w v → Has (chain_of p pos) v → Before (chain_of p pos) w v
  in_order pos w v below b h = let a = chain_now pos below in by a (before_either _ _ w v (subst (λ xs. Before xs w v) a.now b))
    where
      by : (a : ChainNow pos) → Before (kept c.drop (chain_at p.ranges a.range a.stripe)) w v ⊎ Has (joined c.join a.range a.stripe) v → Before (chain_of p pos) w v
      by a (inl x) = subst (λ xs. Before xs w v) (sym a.old) (before_filter _ (chain_at p.ranges a.range a.stripe) w v x)
      by a (inr x) = absurd (contrary _ (has_true _ v (subst (λ xs. Has xs v) a.old h)) (joined_new a.range a.stripe v x).0)

  pub next : Next words p q
  next = record {
    epoch = f.epoch;
    start = f.start;
    gone = gone_later;
    stays = stays;
    left = left_of;
    kept = kept_in;
    old = old_or_joins;
    order = in_order;
    joins = λ pos u j. (j.1, j.2);
  }

  -- no unit that stands is gone
  pub none_gone : ((u : ℕ) → has p.gone u ≡ true → Has (units_of p.ranges) u → ⊥) → (u : ℕ) → has q.gone u ≡ true → Has (units_of q.ranges) u → ⊥
  none_gone ih u g h = by (has_either _ _ u (subst (λ xs. Has xs u) (ap units_of ranges ∙ units_of-append (next_ranges c 0 p.ranges) (opened_at c.opened q.start)) h))
    where
      stood : (n k : ℕ) → n < length p.ranges → k < length (range_at p.ranges n).stripes → Has (kept c.drop (chain_at p.ranges n k)) u ⊎ Has (joined c.join n k) u → ⊥
      stood n k a b (inl x) = which (has p.gone u) (has c.drop u) refl refl
        where
          out : has c.drop u ≡ false
          out = not_true _ (passed (λ v. not (has c.drop v)) (chain_at p.ranges n k) u x)

          which : (d e : Bool) → has p.gone u ≡ d → has c.drop u ≡ e → ⊥
          which true e i j = ih u i (units_has p.ranges n k u a b (has_filter _ (chain_at p.ranges n k) u x))
          which false e i j = contrary (has q.gone u) g (f.gone u ∙ (ap (λ d. d || has c.drop u) i ∙ out))
      stood n k a b (inr x) = contrary (has q.gone u) g (joined_new n k u x).1

      first : InChain (next_ranges c 0 p.ranges) u → ⊥
      first i = stood i.range i.stripe there (subst (λ n. i.stripe < n) (ap (λ (r : Range). length r.stripes) now ∙ f.stripes i.range there) i.stripes)
          (has_either _ _ u (subst (λ xs. Has xs u) (ap (λ (r : Range). get_or r.stripes i.stripe []) now ∙ f.chains i.range i.stripe there (subst (λ n. i.stripe < n) (ap (λ (r : Range). length r.stripes) now ∙ f.stripes i.range there) i.stripes)) i.has))
        where
          there : i.range < length p.ranges
          there = subst (λ n. i.range < n) (length-next_ranges c 0 p.ranges) i.ranges

          now : range_at (next_ranges c 0 p.ranges) i.range ≡ range_at q.ranges i.range
          now = sym (ap (λ (rs : List Range). range_at rs i.range) ranges ∙ get_or_append_left (next_ranges c 0 p.ranges) (opened_at c.opened q.start) no_range i.range i.ranges)

      by : Has (units_of (next_ranges c 0 p.ranges)) u ⊎ Has (units_of (opened_at c.opened q.start)) u → ⊥
      by (inl x) = first (in_chain (next_ranges c 0 p.ranges) u x)
      by (inr x) = contrary (has q.gone u) g (f.opened u (has_true _ u (subst (λ xs. Has xs u) (units_of-opened c.opened q.start) x)))
