-- A client knows of few layout servers and units.
use Rattle.std.proofs.Common.{◌≡◌, ℕ, zero, suc, ◌+◌, ◌<◌, ◌≤◌, Bool, true, false, List, [], ◌∷◌, ◌++◌, length, Option, Some, None, refl, sym, ap, subst, ◌∙◌, arith}
use Rattle.std.specs.Prelude.{◌^◌, not, ◌&&◌, ◌==◌, if◌then◌else◌, slice_index_or}
use Rattle.std.specs.Global.{Box}
use Rattle.std.specs.List.{list_all, concat}
use Rattle.std.proofs.lemmas.Bool.{ltb-true}
use Rattle.std.proofs.lemmas.Bool.Decides.{nat_tests}
use Rattle.std.proofs.lemmas.List.Folds.{list_all-append}
use Rattle.tg_base.specs.declared.change.Join.{Join}
use Rattle.tg_base.specs.declared.layout.Range.{Range}
use Rattle.tg_base.specs.Units.{has, is_unit, is_rising, is_chain}
use Rattle.tg_base.specs.Layouts.{Layout, IsLayout, is_range}
use Rattle.tg_base.specs.Changes.{Changed, IsChange, is_joining, is_opening}
use Rattle.tg_base.proofs.Exact.{and-left, and-right, both}
use Rattle.tg_base.proofs.Rules.{layout_rules, chain_rules}
use Rattle.tg_kind.specs.Meaning.{Meaning}
use Rattle.tg_proj.specs.Next.{kept, joined, next_chain, next_chains, next_ranges, opened_at, rising_with}
use Rattle.tg_proj.specs.Places.{range_at, range_number, stripe_number}
use Rattle.tg_proj.specs.Refusals.{units_of as units_in}
use Rattle.tg_proj.proofs.Gone.{gone_units, gone_rises}
use Rattle.tg_chain.proofs.Rising.{few_units}
use Rattle.tg_protocol.specs.Layouts.{units_of, chain_of, next_of, next_units}
use Rattle.tg_protocol.specs.Reconfiguring.{Reconf}
use Rattle.tg_protocol.specs.Clients as told
use Rattle.tg_protocol.specs.ClientSteps.{task_in}
use Rattle.tg_law_numbers.specs.Counts.{HasFew, AsksFew, IsFew}
use Rattle.tg_client_state.specs.Tasks.{TaskOf, HandOf, WorkOf, told_task, KeepsHand, KeepsMaybe}
use Rattle.tg_client_state.specs.declared.hand.Hand.TheVariants as hand
use Rattle.tg_client_state.specs.States.{StateOf, KeepsClient}
use Rattle.tg_protocol.specs.Words.{with_num, with_nums}

-- The units of chains.

chains_units : (cs : List (List ℕ)) → list_all is_chain cs ≡ true → list_all is_unit (concat cs) ≡ true
chains_units [] h = refl
chains_units (c ∷ cs) h = list_all-append is_unit c (concat cs) ∙ both _ _ (chain_rules c (and-left _ _ h)).each_unit (chains_units cs (and-right _ _ h))

-- after a change

keep_unit : (b : Bool) (u : ℕ) (us : List ℕ) → is_unit u ≡ true → list_all is_unit us ≡ true → list_all is_unit (if b then u ∷ us else us) ≡ true
keep_unit true u us e h = both _ _ e h
keep_unit false u us e h = h

kept_units : (drop us : List ℕ) → list_all is_unit us ≡ true → list_all is_unit (kept drop us) ≡ true
kept_units drop [] h = refl
kept_units drop (u ∷ us) h = keep_unit (not (has drop u)) u (kept drop us) (and-left _ _ h) (kept_units drop us (and-right _ _ h))

join_unit : (b : Bool) (u : ℕ) → is_unit u ≡ true → list_all is_unit (if b then u ∷ [] else []) ≡ true
join_unit true u e = both _ _ e refl
join_unit false u e = refl

joined_units : (j : Option Join) (n k : ℕ) → is_joining j ≡ true → list_all is_unit (joined j n k) ≡ true
joined_units None n k e = refl
joined_units (Some j) n k e = join_unit (j.range == n && j.stripe == k) j.unit e

next_chain_units : (c : Changed) (n k : ℕ) (us : List ℕ) → is_joining c.join ≡ true → list_all is_unit us ≡ true → list_all is_unit (next_chain c n k us) ≡ true
next_chain_units c n k us j h = list_all-append is_unit (kept c.drop us) (joined c.join n k) ∙ both _ _ (kept_units c.drop us h) (joined_units c.join n k j)

next_chains_units : (c : Changed) (n k : ℕ) (cs : List (List ℕ)) → is_joining c.join ≡ true → list_all is_chain cs ≡ true → list_all is_unit (concat (next_chains c n k cs)) ≡ true
next_chains_units c n k [] j h = refl
next_chains_units c n k (us ∷ cs) j h =
    list_all-append is_unit (next_chain c n k us) (concat (next_chains c n (k + 1) cs))
    ∙ both _ _ (next_chain_units c n k us j (chain_rules us (and-left _ _ h)).each_unit) (next_chains_units c n (k + 1) cs j (and-right _ _ h))

next_ranges_units : (c : Changed) (n : ℕ) (rs : List Range) → is_joining c.join ≡ true → list_all is_range rs ≡ true → list_all is_unit (units_in (next_ranges c n rs)) ≡ true
next_ranges_units c n [] j h = refl
next_ranges_units c n (r ∷ rs) j h =
    list_all-append is_unit (concat (next_chains c n 0 r.stripes)) (units_in (next_ranges c (n + 1) rs))
    ∙ both _ _ (next_chains_units c n 0 r.stripes j (and-right _ _ (and-left _ _ h))) (next_ranges_units c (n + 1) rs j (and-right _ _ h))

-- Rising units are few.

num_same : (u : ℕ) (xs : List ℕ) → with_num u xs ≡ rising_with xs u
num_same u [] = refl
num_same u (x ∷ xs) = grind (arith, nat_tests, num_same u xs)

num_rises : (u : ℕ) (xs : List ℕ) → is_rising xs ≡ true → is_rising (with_num u xs) ≡ true
num_rises u xs h = subst (λ ys. is_rising ys ≡ true) (sym (num_same u xs)) (gone_rises xs (u ∷ []) h)

num_units : (u : ℕ) (xs : List ℕ) → is_unit u ≡ true → list_all is_unit xs ≡ true → list_all is_unit (with_num u xs) ≡ true
num_units u xs e h = subst (λ ys. list_all is_unit ys ≡ true) (sym (num_same u xs)) (gone_units xs (u ∷ []) h (both _ _ e refl))

nums_rise : (xs : List ℕ) → is_rising (with_nums xs []) ≡ true
nums_rise [] = refl
nums_rise (x ∷ xs) = num_rises x (with_nums xs []) (nums_rise xs)

nums_units : (xs : List ℕ) → list_all is_unit xs ≡ true → list_all is_unit (with_nums xs []) ≡ true
nums_units [] h = refl
nums_units (x ∷ xs) h = num_units x (with_nums xs []) (and-left _ _ h) (nums_units xs (and-right _ _ h))

few_from : (x : ℕ) (xs : List ℕ) → is_rising (x ∷ xs) ≡ true → list_all is_unit (x ∷ xs) ≡ true → x + length (x ∷ xs) ≤ 64
few_from x [] r u =
    let below : x < 64 = ltb-true x 64 (and-left _ _ u) in
    omega (arith, below)
few_from x (y ∷ ys) r u =
    let less : x < y = ltb-true x y (and-left _ _ r) in
    let rest : y + length (y ∷ ys) ≤ 64 = few_from y ys (and-right _ _ r) (and-right _ _ u) in
    omega (arith, less, rest)

few : (xs : List ℕ) → is_rising xs ≡ true → list_all is_unit xs ≡ true → length xs ≤ 64
few [] r u = omega arith
few (x ∷ xs) r u = let most : x + length (x ∷ xs) ≤ 64 = few_from x xs r u in omega (arith, most)

few_of : (xs : List ℕ) → list_all is_unit xs ≡ true → length (with_nums xs []) ≤ 64
few_of xs h = few (with_nums xs []) (nums_rise xs) (nums_units xs h)

-- The units of the next layout.

opened_units : (cs : List (List ℕ)) (start : ℕ) → list_all is_chain cs ≡ true → list_all is_unit (units_in (opened_at cs start)) ≡ true
opened_units [] start h = refl
opened_units (c ∷ cs) start h = list_all-append is_unit (concat (c ∷ cs)) [] ∙ both _ _ (chains_units (c ∷ cs) h) refl

units_either : (rs ss : List Range) → list_all is_unit (units_in rs) ≡ true → list_all is_unit (units_in ss) ≡ true → list_all is_unit (units_in (rs ++ ss)) ≡ true
units_either [] ss h k = k
units_either (r ∷ rs) ss h k =
    let all : (list_all is_unit (concat r.stripes) && list_all is_unit (units_in rs)) ≡ true = sym (list_all-append is_unit (concat r.stripes) (units_in rs)) ∙ h in
    list_all-append is_unit (concat r.stripes) (units_in (rs ++ ss)) ∙ both _ _ (and-left _ _ all) (units_either rs ss (and-right _ _ all) k)

pub next_few : (p : Layout) (c : Changed) → IsLayout p → IsChange c → length (next_units p c) ≤ 64
unfolding units_of next_of
next_few p c h x =
    let opening : is_opening c.opened ≡ true = and-right _ _ (and-left _ _ x) in
    let chains : list_all is_chain c.opened ≡ true = and-right _ _ (and-left _ _ opening) in
    few_of (units_in (next_ranges c 0 p.ranges ++ opened_at c.opened 0))
    (units_either (next_ranges c 0 p.ranges) (opened_at c.opened 0) (next_ranges_units c 0 p.ranges (and-right _ _ x) (layout_rules p h).ranges) (opened_units c.opened 0 chains))

-- A chain of a layout has five units at most.

ranges_chains : (rs : List Range) (n : ℕ) → list_all is_range rs ≡ true → list_all is_chain (range_at rs n).stripes ≡ true
ranges_chains [] n h = refl
ranges_chains (r ∷ rs) zero h = and-right _ _ (and-left _ _ h)
ranges_chains (r ∷ rs) (suc n) h = ranges_chains rs n (and-right _ _ h)

chains_few : (cs : List (List ℕ)) (k : ℕ) → list_all is_chain cs ≡ true → length (slice_index_or cs k []) ≤ 5
chains_few [] k h = omega arith
chains_few (c ∷ cs) zero h = (chain_rules c (and-left _ _ h)).few
chains_few (c ∷ cs) (suc k) h = chains_few cs k (and-right _ _ h)

chain_few : (p : Layout) (pos : ℕ) → IsLayout p → length (chain_of p pos) ≤ 5
unfolding chain_of
chain_few p pos h =
    let n = range_number p.ranges pos in
    chains_few (range_at p.ranges n).stripes (stripe_number (range_at p.ranges n) pos) (ranges_chains p.ranges n (layout_rules p h).ranges)

-- What a client knows of.

pub layout_few : (p : Layout) → IsLayout p → HasFew 65536 p
unfolding units_of
layout_few p h = record {
  units = (let few : length (units_of p) ≤ 64 = few_units p h in omega (arith, few));
  chain = λ pos. (let few : length (chain_of p pos) ≤ 5 = chain_few p pos h in omega (arith, few));
}

pub reconf_few : (r : Reconf) → r.layouts < 2 ^ 16 → IsLayout r.stand → IsChange r.change → AsksFew 65536 r
reconf_few r less h x = record {
  servers = omega (arith, less);
  units = (let few : length (next_units r.stand r.change) ≤ 64 = next_few r.stand r.change h x in omega (arith, few));
}

pub change_few : (p : Layout) (c : Changed) → IsLayout p → IsChange c → length (next_units p c) ≤ 65536
change_few p c h x = let few : length (next_units p c) ≤ 64 = next_few p c h x in omega (arith, few)

-- The change that a client has in hand.

module _ (m : Meaning) where
  pub doing_few : (x : HandOf m) (h : told.Hand m) (i : Box (TaskOf m)) (t : TaskOf m) → t ≡ i.value → x ≡ hand.Doing i → ((r : Reconf) → told_task m t ≡ told.Reconfiguring r → AsksFew 65536 r) → KeepsHand m x h
      → (r : Reconf) → task_in m h ≡ told.Reconfiguring r → AsksFew 65536 r
  doing_few x (told.Doing u) i t o e f k r is = f r (ap (λ (y : TaskOf m). told_task m y) o ∙ subst (λ (y : HandOf m). KeepsHand m y (told.Doing u)) e k ∙ is)
  doing_few x (told.Learning ws u) i t o e f k r is = absurd (subst (λ (y : HandOf m). KeepsHand m y (told.Learning ws u)) e k)

  idle_few : (o : Option (told.Work m)) → KeepsMaybe m None o → (w : told.Work m) (r : Reconf) → o ≡ Some w → task_in m w.hand ≡ told.Reconfiguring r → AsksFew 65536 r
  idle_few None k w r e is = absurd cc
  idle_few (Some u) k w r e is = absurd k

  work_few : (v : WorkOf m) (o : Option (told.Work m)) → ((h : told.Hand m) (r : Reconf) → KeepsHand m v.hand h → task_in m h ≡ told.Reconfiguring r → AsksFew 65536 r) → KeepsMaybe m (Some v) o
      → (w : told.Work m) (r : Reconf) → o ≡ Some w → task_in m w.hand ≡ told.Reconfiguring r → AsksFew 65536 r
  work_few v None f k w r e is = absurd k
  work_few v (Some u) f k w r e is = let same : u ≡ w = cc in f u.hand r k.hand (ap (λ (x : told.Work m). task_in m x.hand) same ∙ is)

  -- a client that is kept with its work
  client_few : (s : StateOf m) (x : Option (WorkOf m)) (c : told.Client m) → s.layouts < 2 ^ 16 → IsLayout s.stand → KeepsClient m s x c
      → ((w : told.Work m) (r : Reconf) → c.work ≡ Some w → task_in m w.hand ≡ told.Reconfiguring r → AsksFew 65536 r) → IsFew m 65536 c
  client_few s x c less h k f =
      let layouts : c.layouts ≡ s.layouts = ap (λ (d : told.Client m). d.layouts) k.is in
      record { servers = omega (arith, layouts, less); stand = subst (λ (p : Layout). HasFew 65536 p) (sym (ap (λ (d : told.Client m). d.stand) k.is)) (layout_few s.stand h); change = f }

  pub idle_client_few : (s : StateOf m) (x : Option (WorkOf m)) (c : told.Client m) → s.layouts < 2 ^ 16 → IsLayout s.stand → x ≡ None → KeepsClient m s x c → IsFew m 65536 c
  idle_client_few s x c less h e k = client_few s x c less h k (idle_few c.work (subst (λ (y : Option (WorkOf m)). KeepsMaybe m y c.work) e k.work))

  pub busy_client_few : (s : StateOf m) (x : Option (WorkOf m)) (v : WorkOf m) (c : told.Client m) → s.layouts < 2 ^ 16 → IsLayout s.stand → x ≡ Some v
      → ((h : told.Hand m) (r : Reconf) → KeepsHand m v.hand h → task_in m h ≡ told.Reconfiguring r → AsksFew 65536 r) → KeepsClient m s x c → IsFew m 65536 c
  busy_client_few s x v c less h e f k = client_few s x c less h k (work_few v c.work f (subst (λ (y : Option (WorkOf m)). KeepsMaybe m y c.work) e k.work))
