-- The units of the layout that a change makes: there are some, a unit that joins is one, and they are no more than there are.
use Rattle.std.proofs.Common.{◌≡◌, ℕ, ◌+◌, ◌<◌, ◌≤◌, List, [], ◌∷◌, ◌++◌, length, get_or, ◌&&◌, refl, sym, ap, ◌∙◌, subst, inl, inr, arith, zero-add, Option, Some, None, true}
use Rattle.std.specs.Prelude.{◌==◌, nat_le, if◌then◌else◌}
use Rattle.tg_base.specs.declared.layout.Range.{Range}
use Rattle.tg_base.specs.declared.change.Join.{Join}
use Rattle.tg_base.specs.Layouts.{Layout, IsLayout, is_range}
use Rattle.tg_base.specs.Changes.{Changed}
use Rattle.tg_base.proofs.Exact.{and-left, and-right}
use Rattle.tg_base.proofs.Rules.{layout_rules, within-low}
use Rattle.tg_proj.specs.Places.{no_range, range_at, chain_at}
use Rattle.tg_proj.specs.Next.{kept, joined, next_chain, next_range, next_ranges, opened_at, next_layout}
use Rattle.tg_proj.specs.Refusals.{units_of as units_in, join_refusal, early_refusal}
use Rattle.tg_proj.proofs.Ranges.{each_passes}
use Rattle.tg_proj.proofs.Chains.{length-next_chains, length-next_ranges, get_or-next_chains, get_or-next_ranges, units_of-append, units_of-opened}
use Rattle.tg_proj.proofs.Allowed.{allowed, join_allowed, some_left}
use Rattle.tg_protocol.specs.Words.{with_nums}
use Rattle.tg_protocol.specs.Layouts.{units_of, next_of, next_units, change_fault}
use Rattle.tg_law_layouts.proofs.Moves.Members.{Has, has_left, has_right}
use Rattle.tg_law_cells.proofs.Cells.Successors.{units_has}
use Rattle.tg_law_cells.proofs.Entries.Lists.{nums_left}
use Rattle.tg_law_walks.specs.Walks.Streams.{rises}
use Rattle.tg_law_walks.proofs.Walks.Positions.{all_rise}

-- Numbers that rise below a bound are no more than it.

least : (a b : ℕ) → nat_le a b ≡ true → a ≤ b
least a b e = grind arith

rises_few : (low bound : ℕ) (us : List ℕ) → rises low us ≡ true → ((u : ℕ) → Has us u → u < bound) → low ≤ bound → low + length us ≤ bound
rises_few low bound [] r below le = omega (arith, le)
rises_few low bound (u ∷ us) r below le =
    let first = least low u (and-left _ _ r) in
    let less = below u (inl refl) in
    let rest = rises_few (u + 1) bound us (and-right _ _ r) (λ v h. below v (inr h)) (omega (arith, less)) in
    omega (arith, first, rest)

first_of : (us : List ℕ) → 1 ≤ length us → (u : ℕ) × Has us u
first_of [] some = absurd (omega (arith, some))
first_of (u ∷ us) some = (u, inl refl)

joins_here : (n k u : ℕ) → (if n == n && k == k then u ∷ [] else []) ≡ u ∷ []
joins_here n k u = grind arith

module _ (p : Layout) (c : Changed) where
  range_is : (n : ℕ) → n < length p.ranges → range_at (next_ranges c 0 p.ranges) n ≡ next_range c n (range_at p.ranges n)
  range_is n a = get_or-next_ranges c 0 p.ranges n no_range no_range a ∙ ap (λ m. next_range c m (range_at p.ranges n)) (zero-add n)

  chain_is : (n k : ℕ) → n < length p.ranges → k < length (range_at p.ranges n).stripes → chain_at (next_ranges c 0 p.ranges) n k ≡ next_chain c n k (chain_at p.ranges n k)
  chain_is n k a b =
      ap (λ (r : Range). get_or r.stripes k []) (range_is n a)
      ∙ (get_or-next_chains c n 0 (range_at p.ranges n).stripes k [] [] b ∙ ap (λ m. next_chain c n m (chain_at p.ranges n k)) (zero-add k))

  -- a unit of some chain after the change
  next_has : (n k u : ℕ) → n < length p.ranges → k < length (range_at p.ranges n).stripes → Has (next_chain c n k (chain_at p.ranges n k)) u → Has (next_units p c) u
  unfolding units_of next_of
  next_has n k u a b h =
      let there = units_has (next_ranges c 0 p.ranges) n k u (subst (λ i. n < i) (sym (length-next_ranges c 0 p.ranges)) a)
      (subst (λ i. k < i) (sym (ap (λ (r : Range). length r.stripes) (range_is n a) ∙ length-next_chains c n 0 (range_at p.ranges n).stripes)) b)
      (subst (λ (chain : List ℕ). Has chain u) (sym (chain_is n k a b)) h) in
      nums_left (units_in (next_layout p c 0 0).ranges) [] u (subst (λ (us : List ℕ). Has us u) (sym (units_of-append (next_ranges c 0 p.ranges) (opened_at c.opened 0))) (has_left _ _ u there))

  -- they are no more than a bound above each
  pub next_few : (bound : ℕ) → ((u : ℕ) → Has (next_units p c) u → u < bound) → length (next_units p c) ≤ bound
  unfolding units_of
  next_few bound below = let a = rises_few 0 bound (next_units p c) (all_rise (units_in (next_of p c 0 0).ranges) [] refl) below (omega arith) in omega (arith, a)

  -- where the change may be made
  module _ (fine : change_fault p c ≡ None) where
    early : early_refusal p c ≡ None
    unfolding change_fault
    early = fine

    pub next_some : IsLayout p → (u : ℕ) × Has (next_units p c) u
    next_some rules =
        let old = layout_rules p rules in
        let a = old.some in
        let b = within-low 1 8 (length (range_at p.ranges 0).stripes) (and-left _ _ (each_passes is_range p.ranges 0 no_range a old.ranges)) in
        let u = first_of (kept c.drop (chain_at p.ranges 0 0)) (some_left p c early 0 0 a b) in
        (u.0, next_has 0 0 u.0 a b (has_left _ _ u.0 u.1))

    pub next_joins : (j : Join) → c.join ≡ Some j → Has (next_units p c) j.unit
    next_joins j is =
        let may = join_allowed p c.drop j (subst (λ (o : Option Join). join_refusal p c.drop o ≡ None) is (allowed p c early).join) in
        let closed = may.closed in
        let here : Has (joined (Some j) j.range j.stripe) j.unit = subst (λ (us : List ℕ). Has us j.unit) (sym (joins_here j.range j.stripe j.unit)) (inl refl) in
        next_has j.range j.stripe j.unit (omega (arith, closed)) may.there (has_right (kept c.drop (chain_at p.ranges j.range j.stripe)) _ j.unit (subst (λ (o : Option Join). Has (joined o j.range j.stripe) j.unit) (sym is) here))

  -- which units stand doesn't hang on the client, nor on the start
  pub next_same : (by start : ℕ) → units_of (next_of p c by start) ≡ next_units p c
  unfolding units_of next_of
  next_same by start = ap (λ (us : List ℕ). with_nums us [])
      (units_of-append (next_ranges c 0 p.ranges) (opened_at c.opened start) ∙ (ap (λ (us : List ℕ). units_in (next_ranges c 0 p.ranges) ++ us) (units_of-opened c.opened start ∙ sym (units_of-opened c.opened 0)) ∙ sym (units_of-append (next_ranges c 0 p.ranges) (opened_at c.opened 0))))
