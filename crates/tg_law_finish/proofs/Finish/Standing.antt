-- What the settling's proof asks of a world holds of each to which a run comes, where a command waits alone and all
-- stands ready.
use Rattle.std.proofs.Common.{◌≡◌, ◌≢◌, ◌⊎◌, ℕ, zero, suc, ◌^◌, ◌<◌, ◌≤◌, List, [], ◌∷◌, length, Bool, true, false, eqb, refl, ap, ◌∙◌, sym, subst, inl, inr, arith, Some, None, Option}
use Rattle.std.specs.Prelude.{slice_index, nat_lt, max, fold, flat_map, if◌then◌else◌, ◌&&◌, slice_index_or}
use Rattle.tg_base.proofs.Exact.{and-left, and-right}
use Rattle.tg_base.specs.Clusters.{Header, IsHeader, is_odd_to_seven, are_chains, are_objects}
use Rattle.tg_base.specs.Units.{is_within}
use Rattle.tg_base.specs.Layouts.{Layout, IsLayout}
use Rattle.tg_base.specs.declared.layout.Range.{Range}
use Rattle.tg_kind.specs.Meaning.{Meaning}
use Rattle.tg_model.specs.Kinds.{CommandOf}
use Rattle.tg_proj.specs.Places.{range_at, chain_at}
use Rattle.tg_proj.specs.Refusals.{units_of as units_in}
use Rattle.tg_base.specs.declared.cell.Cell.{Cell}
use Rattle.std.proofs.lemmas.Bool.Decides.{nat_tests}
use Rattle.tg_base.specs.declared.ids.Oid.{Oid}
use Rattle.tg_protocol.specs.Entries.{link_of, backs_of}
use Rattle.tg_protocol.specs.Sequencers.{links_of}
use Rattle.tg_protocol.specs.Words.{cell_at, with_num, with_nums, unit_id, too_far}
use Rattle.tg_protocol.specs.Layouts.{chain_of, units_of}
use Rattle.tg_protocol.specs.Cells.{CellJob, Place}
use Rattle.tg_protocol.specs.Worlds.{World, start, unit, seqr, latest, runs}
use Rattle.tg_protocol.specs.Runs.{Moves, Reaches, Always}
use Rattle.tg_protocol.specs.Finishing.{stripes_of, longest_chain, IsReadyFor}
use Rattle.tg_law_layouts.specs.Moves.Configs.{config}
use Rattle.tg_law_layouts.proofs.Moves.Always.{always}
use Rattle.tg_law_layouts.proofs.Moves.Moves.{run_keeps}
use Rattle.tg_law_layouts.proofs.Moves.Lists.{contained}
use Rattle.tg_law_layouts.proofs.Moves.Members.{Has, has_left, has_right}
use Rattle.tg_law_layouts.proofs.Requests.Numbers.{Numbers}
use Rattle.tg_law_layouts.proofs.Requests.Starts.{all_hold}
use Rattle.tg_law_layouts.proofs.Layouts.Decisions.{Pax, pax_keep}
use Rattle.tg_law_layouts.proofs.Layouts.Layouts.{start_pax, has_header}
use Rattle.tg_law_layouts.proofs.Layouts.Deciding.{one_layout, latest_decided, layouts_are_known, layouts_are_sound}
use Rattle.tg_law_cells.proofs.Cells.Befores.{Before, has_at}
use Rattle.tg_law_cells.proofs.Cells.Chains.{Cells}
use Rattle.tg_law_cells.proofs.Cells.Heads.{heads_have_cells}
use Rattle.tg_law_cells.proofs.Cells.Jobs.{MaybeOk}
use Rattle.tg_law_cells.proofs.Cells.Stores.{cells_hold}
use Rattle.tg_law_cells.proofs.Cells.Successors.{place_of, stands_there, some_there, single_there}
use Rattle.tg_law_headline.proofs.Issues.Bounds.{AllBelow, lasts_below}
use Rattle.tg_law_headline.proofs.Issues.Tails.{Tails, tails_hold, links_below}
use Rattle.tg_law_headline.proofs.Issues.Unwritten.{next_is_unwritten}
use Rattle.tg_law_finish.specs.Finish.Alone.{IsAlone}
use Rattle.tg_law_finish.specs.Finish.Granted.{Granted}
use Rattle.tg_law_finish.specs.Finish.Queues.{RisesWithin}
use Rattle.tg_law_finish.proofs.Finish.Askers.{Distinct}
use Rattle.tg_law_finish.proofs.Finish.Lists.{Each}
use Rattle.tg_law_finish.proofs.Finish.Scans.{Seqrs, seqrs_hold}
use Rattle.tg_law_finish.proofs.Finish.Sized.{all_sized}
use Rattle.tg_law_finish.proofs.Finish.Working.{Working, Lawful, JobOff}
use Rattle.tg_protocol.specs.Chosen.{IsDecided}

-- Lists.

unequal : (c d : ℕ) → (c ≡ d → ⊥) → eqb c d ≡ false
unequal c d f = by (eqb c d) refl
  where
    same : (c d : ℕ) → eqb c d ≡ true → c ≡ d
    same c d e = grind arith

    by : (b : Bool) → eqb c d ≡ b → eqb c d ≡ false
    by true e = absurd (f (same c d e))
    by false e = e

less_not : (c d : ℕ) → c < d → nat_lt c d ≡ false → ⊥
less_not c d l e = grind arith

same_not : (c d : ℕ) → c ≡ d → eqb c d ≡ false → ⊥
same_not c d e f = grind arith

num_here : (x : ℕ) (xs : List ℕ) → Has (with_num x xs) x
num_here x [] = inl refl
num_here x (y ∷ ys) = by (nat_lt x y) (eqb x y) refl (num_here x ys)
  where
    same : (x y : ℕ) → eqb x y ≡ true → x ≡ y
    same x y e = grind arith

    by : (b c : Bool) → eqb x y ≡ c → Has (with_num x ys) x → Has (if b then x ∷ y ∷ ys else (if c then y ∷ ys else y ∷ with_num x ys)) x
    by true c e f = inl refl
    by false true e f = inl (same x y e)
    by false false e f = inr f

num_more : (x u : ℕ) (ys : List ℕ) → Has ys u → Has (with_num x ys) u
num_more x u [] h = absurd h
num_more x u (y ∷ ys) h = by (nat_lt x y) (eqb x y) h (λ g. num_more x u ys g)
  where
    by : (a b : Bool) → Has (y ∷ ys) u → (Has ys u → Has (with_num x ys) u) → Has (if a then x ∷ y ∷ ys else (if b then y ∷ ys else y ∷ with_num x ys)) u
    by true b h f = inr h
    by false true h f = h
    by false false (inl e) f = inl e
    by false false (inr g) f = inr (f g)

nums_have : (xs : List ℕ) (u : ℕ) → Has xs u → Has (with_nums xs []) u
nums_have [] u h = absurd h
nums_have (x ∷ xs) u (inl e) = subst (λ v. Has (with_num x (with_nums xs [])) v) (sym e) (num_here x (with_nums xs []))
nums_have (x ∷ xs) u (inr h) = num_more x u (with_nums xs []) (nums_have xs u h)

-- they rise
num_rises : (x lo hi : ℕ) (ys : List ℕ) → lo ≤ x → x < hi → RisesWithin lo ys hi → RisesWithin lo (with_num x ys) hi
num_rises x lo hi [] le less r = (le, omega (arith, less))
num_rises x lo hi (y ∷ ys) le less r = by (nat_lt x y) (eqb x y) refl refl (λ l. num_rises x (suc y) hi ys l less r.1)
  where
    below : (x y : ℕ) → nat_lt x y ≡ true → suc x ≤ y
    below x y e = grind arith

    above : (x y : ℕ) → nat_lt x y ≡ false → eqb x y ≡ false → suc y ≤ x
    above x y e f = grind arith

    by : (a b : Bool) → nat_lt x y ≡ a → eqb x y ≡ b → (suc y ≤ x → RisesWithin (suc y) (with_num x ys) hi) → RisesWithin lo (if a then x ∷ y ∷ ys else (if b then y ∷ ys else y ∷ with_num x ys)) hi
    by true b e f rest = (le, (below x y e, r.1))
    by false true e f rest = r
    by false false e f rest = (r.0, rest (above x y e f))

nums_rise : (xs : List ℕ) (hi : ℕ) → ((u : ℕ) → Has xs u → u < hi) → RisesWithin 0 (with_nums xs []) hi
nums_rise [] hi f = omega arith
nums_rise (x ∷ xs) hi f = num_rises x 0 hi (with_nums xs []) (omega arith) (f x (inl refl)) (nums_rise xs hi (λ u g. f u (inr g)))

one_there : (xs : List ℕ) (x : ℕ) → Has xs x → 0 < length xs
one_there [] x h = absurd h
one_there (y ∷ ys) x h = omega arith

longer : (n : ℕ) (cs : List (List ℕ)) → n ≤ fold (λ k (chain : List ℕ). max k (length chain)) n cs
longer n [] = omega arith
longer n (c ∷ cs) = let a = longer (max n (length c)) cs in let b = least n (length c) in omega (arith, a, b)
  where
    least : (a b : ℕ) → a ≤ max a b
    least a b = grind arith

at_most : (n : ℕ) (cs : List (List ℕ)) (c : List ℕ) → Has cs c → length c ≤ fold (λ k (chain : List ℕ). max k (length chain)) n cs
at_most n [] c h = absurd h
at_most n (x ∷ cs) c (inl e) = let a = longer (max n (length x)) cs in let b = most n (length x) in let f = ap (λ (y : List ℕ). length y) e in omega (arith, a, b, f)
  where
    most : (a b : ℕ) → b ≤ max a b
    most a b = grind arith
at_most n (x ∷ cs) c (inr h) = at_most (max n (length x)) cs c h

stripe_in : (cs : List (List ℕ)) (k : ℕ) → k < length cs → Has cs (slice_index_or cs k [])
stripe_in [] k less = absurd (omega (arith, less))
stripe_in (c ∷ cs) zero less = inl refl
stripe_in (c ∷ cs) (suc k) less = inr (stripe_in cs k (omega (arith, less)))

ranges_have : (rs : List Range) (n k : ℕ) → n < length rs → k < length (range_at rs n).stripes → Has (flat_map stripes_of rs) (chain_at rs n k)
ranges_have [] n k a b = absurd (omega (arith, a))
ranges_have (r ∷ rs) zero k a b = has_left r.stripes (flat_map stripes_of rs) _ (stripe_in r.stripes k b)
ranges_have (r ∷ rs) (suc n) k a b = has_right r.stripes (flat_map stripes_of rs) _ (ranges_have rs n k (omega (arith, a)) b)

-- A header has seven layout servers at most, and its limit is near.

few_layouts : (n : ℕ) → is_odd_to_seven n ≡ true → n ≤ 7
few_layouts n e = grind arith

near_limit : (n : ℕ) → is_within 1 1000000 n ≡ true → n < 2 ^ 62
near_limit n e = grind arith

pub header_limits : (h : Header) → IsHeader h → (h.layouts ≤ 7) × (h.limit < 2 ^ 62)
header_limits h i =
    let a : Bool = is_within 1 64 h.units && is_odd_to_seven h.layouts in
    let b : Bool = a && is_within 1 16 h.seqs in
    let c : Bool = b && is_within 1 32 h.clients in
    let d : Bool = c && is_within 1 1000000 h.limit in
    let e : d ≡ true = and-left d (are_chains h.units h.chains) (and-left (d && are_chains h.units h.chains) (are_objects h.objects) i) in
    let f : b ≡ true = and-left b (is_within 1 32 h.clients) (and-left c (is_within 1 1000000 h.limit) e) in
    (few_layouts h.layouts (and-right (is_within 1 64 h.units) (is_odd_to_seven h.layouts) (and-left a (is_within 1 16 h.seqs) f)), near_limit h.limit (and-right c (is_within 1 1000000 h.limit) e))

chain_short : (p : Layout) (pos : ℕ) → IsLayout p → length (chain_of p pos) ≤ longest_chain p
chain_short p pos rules = let a = place_of p pos rules in subst (λ (c : List ℕ). length c ≤ longest_chain p) (sym a.chain) (at_most 0 (flat_map stripes_of p.ranges) _ (ranges_have p.ranges a.range a.stripe a.is.there a.less))

none_first : (x : ℕ) (xs : List ℕ) → (Has xs x → ⊥) → Each (λ y. eqb y x ≡ false) xs
none_first x [] f = tt
none_first x (y ∷ ys) f = (unequal y x (λ e. f (inl (sym e))), none_first x ys (λ g. f (inr g)))

distinct_of : (xs : List ℕ) → ((u : ℕ) → Before xs u u → ⊥) → Distinct xs
distinct_of [] f = tt
distinct_of (x ∷ xs) f = (none_first x xs (λ g. f x (inl (refl, g))), distinct_of xs (λ u b. f u (inr b)))

-- the units of a position's chain are the layout's
pub chain_in_units : (p : Layout) → IsLayout p → (pos i : ℕ) → i < length (chain_of p pos) → Has (units_of p) (slice_index (chain_of p pos) i)
unfolding units_of
chain_in_units p rules pos i less = nums_have (units_in p.ranges) _ (stands_there p pos _ rules (has_at (chain_of p pos) i less))

module _ (m : Meaning) where
  pub numbers_hold : Always m (λ w. Numbers m (config m w))
  numbers_hold = always m (λ w. Numbers m (config m w)) (λ h ms. (all_hold m h ms).0.0)

  pub cells_always : Always m (λ w. Cells m (config m w))
  cells_always = always m (λ w. Cells m (config m w)) (λ h ms. cells_hold m h ms)

  pub pax_always : Always m (λ w. Pax m (config m w))
  pax_always = always m (λ w. Pax m (config m w)) (λ h ms. run_keeps m (λ c. Pax m c) (λ c a. pax_keep m c a) ms (start m h) (start_pax m h))

  pub cluster_is : (h : Header) (ms : Moves m) (w : World m) → Reaches m h ms w → w.cluster ≡ h
  cluster_is h ms w r = ap (λ (v : World m). v.cluster) r.goes.is ∙ has_header m h ms

  seqrs_always : Always m (λ w. Seqrs m (config m w))
  seqrs_always = always m (λ w. Seqrs m (config m w)) (λ h ms. seqrs_hold m h ms)

  tails_always : Always m (λ w. Tails m (config m w))
  tails_always = always m (λ w. Tails m (config m w)) (λ h ms. tails_hold m h ms)

  pub units_are : (h : Header) (ms : Moves m) (w : World m) → Reaches m h ms w → length w.units ≡ w.cluster.units
  units_are h ms w r = (all_sized m h ms w r).units ∙ ap (λ (y : Header). y.units) (sym (cluster_is h ms w r))

  module _ (h : Header) (ms : Moves m) (w : World m) (r : Reaches m h ms w) where
    abbrev p : Layout
    p = latest m w

    rules : IsLayout p
    rules = (layouts_are_sound m h ms w r p.epoch p (latest_decided m h ms w r).decided).rules

    in_units : (pos i : ℕ) → i < length (chain_of p pos) → Has (units_of p) (slice_index (chain_of p pos) i)
    in_units pos i less = chain_in_units p rules pos i less

    -- no unit stands twice in a chain
    pub once_there : (pos : ℕ) → Distinct (chain_of p pos)
    once_there pos = distinct_of (chain_of p pos) (λ u. single_there p pos u rules)

    pub some_unit : 0 < length (units_of p)
    some_unit = one_there (units_of p) _ (in_units 0 0 (some_there p 0 rules))

    limit_near : w.cluster.limit < 2 ^ 62
    limit_near = subst (λ (y : Header). y.limit < 2 ^ 62) (sym (cluster_is h ms w r)) (header_limits h r.header).1

    pub limit_below : (seqr m w p.seq).limit < 2 ^ 62
    limit_below = subst (λ n. n < 2 ^ 62) (sym (((seqrs_always h ms w r).fine p.seq).limit)) limit_near

    -- What the sequencer issues next, and what it names.

    pub next_near : too_far (seqr m w p.seq).next ≡ false
    next_near = far_not w.cluster.limit (seqr m w p.seq).proj.start (seqr m w p.seq).next ((seqrs_always h ms w r).fine p.seq).room limit_near (layouts_are_sound m h ms w r _ _ ((layouts_are_known m h ms w r).seqrs p.seq)).near
      where
        far_not : (a b n : ℕ) → n ≤ max a b → a < 2 ^ 62 → b < 2 ^ 62 → too_far n ≡ false
        far_not a b n le l k = grind (arith, nat_tests, le, l, k)

    pub names_below : (o : Oid) (os : List Oid) → AllBelow (seqr m w p.seq).next (backs_of (link_of o (links_of (seqr m w p.seq).lists os)))
    names_below o os = lasts_below (seqr m w p.seq).next o _ (links_below (seqr m w p.seq).next (seqr m w p.seq).lists os (λ n. (tails_always h ms w r).below p.seq n))

    unit_there : (u : ℕ) → runs m w (unit_id u) ≡ true → u < length w.units
    unit_there u e = grind arith

    pub units_rise : (k : ℕ) → IsReadyFor m w k → RisesWithin 0 (units_of p) (length w.units)
    unfolding units_of
    units_rise k b = nums_rise (units_in p.ranges) (length w.units) (λ u g. unit_there u (b.units u (contained (units_of p) u (nums_have (units_in p.ranges) u g))).0)

    module _ (k : ℕ) (x : CommandOf m) (a : IsAlone m w k x) (b : IsReadyFor m w k) where
      ready_unit : (pos i : ℕ) → i < length (chain_of p pos) → (runs m w (unit_id (slice_index (chain_of p pos) i)) ≡ true) × ((unit m w (slice_index (chain_of p pos) i)).epoch ≡ p.epoch)
      ready_unit pos i less = b.units (slice_index (chain_of p pos) i) (contained (units_of p) _ (in_units pos i less))

      not_below : (n k : ℕ) → n ≤ k → nat_lt k n ≡ false
      not_below n k le = grind arith

      differ : (j k : ℕ) → eqb j k ≡ false → j ≢ k
      differ j k e f = same e f
        where
          same : eqb j k ≡ false → j ≡ k → ⊥
          same e f = grind arith

      pub working : Working m w k p
      working = record {
        on_way = a.on_way;
        newest = refl;
        units_run = λ pos i less. (ready_unit pos i less).0;
        units_stand = λ pos i less. (ready_unit pos i less).1;
        all_stand = λ u g. b.units u (contained (units_of p) u g);
        seqr_runs = b.seqr_runs;
        seqr_stands = b.serves.epoch;
        seqr_unfenced = b.serves.unfenced;
        seqr_ready = not_below _ _ b.serves.scanned;
        client_runs = a.running;
        client_stands = b.stand;
        others = λ j off on. a.alone j (differ j k off) on;
      }

      -- Other sequencers' scans.

      job_off : (s : ℕ) (o : Option CellJob) → (seqr m w s).scan ≡ o → (eqb s p.seq ≡ false) → MaybeOk w.packets (seqr m w s).proj o → JobOff m p.epoch (seqr m w s).proj o
      job_off s None e off k = tt
      job_off s (Some j) e off k = (unequal _ _ (λ i. away (sym (ap (λ (y : Place). y.epoch) k.place) ∙ i)), unequal _ _ away)
        where
          own : (seqr m w s).proj.seq ≡ s
          own = by ((seqrs_always h ms w r).fine s).own
            where
              by : ((seqr m w s).scan ≡ None) ⊎ ((seqr m w s).proj.seq ≡ s) → (seqr m w s).proj.seq ≡ s
              by (inl g) = absurd (none_some (sym e ∙ g))
                where
                  none_some : Some j ≡ None → ⊥
                  none_some g = cc
              by (inr g) = g

          not_it : s ≡ p.seq → ⊥
          not_it g = same_not s p.seq g off

          away : (seqr m w s).proj.epoch ≡ p.epoch → ⊥
          away g = not_it (sym own ∙ ap (λ (y : Layout). y.seq) (one_layout m h ms w r p.epoch (seqr m w s).proj p
              (subst (λ n. IsDecided m w n (seqr m w s).proj) g ((layouts_are_known m h ms w r).seqrs s)) (latest_decided m h ms w r).decided))

      head_has : (pos i : ℕ) (c : Cell) → i < length (chain_of p pos) → cell_at (unit m w (slice_index (chain_of p pos) i)).cells pos ≡ Some c
          → nat_lt pos (unit m w (slice_index (chain_of p pos) 0)).low ≡ false → cell_at (unit m w (slice_index (chain_of p pos) 0)).cells pos ≡ Some c
      head_has pos i c less has low = by (heads_have_cells m h ms w r p pos _ c (latest_decided m h ms w r).decided (contained (chain_of p pos) _ (has_at (chain_of p pos) i less)) (let e = (ready_unit pos i less).1 in omega (arith, e)) has)
        where
          by : (cell_at (unit m w (slice_index (chain_of p pos) 0)).cells pos ≡ Some c) ⊎ (pos < (unit m w (slice_index (chain_of p pos) 0)).low) → cell_at (unit m w (slice_index (chain_of p pos) 0)).cells pos ≡ Some c
          by (inl e) = e
          by (inr l) = absurd (less_not _ _ l low)

      pub lawful : Granted m w → Lawful m w p (longest_chain p)
      lawful g = record {
        some = λ pos. some_there p pos rules;
        short = λ pos. chain_short p pos rules;
        lows = g.lows;
        layouts = λ l. (latest_decided m h ms w r).greatest _ _ ((layouts_are_known m h ms w r).servers l);
        rests = ((seqrs_always h ms w r).fine p.seq).rests (not_below _ _ b.serves.scanned);
        limit = subst (λ n. n ≤ 2 ^ 62) (sym (((seqrs_always h ms w r).fine p.seq).limit)) (cluster_limit);
        named = g.named;
        scans = λ s off. job_off s (seqr m w s).scan refl off ((cells_always h ms w r).scans s);
        unwritten = λ i less. next_is_unwritten m h ms w r g.trims _ b.serves (contained (chain_of p (seqr m w p.seq).next) _ (has_at (chain_of p (seqr m w p.seq).next) i less)) (ready_unit (seqr m w p.seq).next i less).1;
        heads = λ pos i c less has low. head_has pos i c less has low;
      }
        where
          cluster_limit : w.cluster.limit ≤ 2 ^ 62
          cluster_limit = let a = limit_near in omega (arith, a)
