-- Of each run: the change that a client has in hand may be made, the unit that joins is one of the next layout's, and each
-- of these is sealed or waited for.
use Rattle.std.proofs.Common.{◌≡◌, ◌⊎◌, ℕ, zero, suc, ◌+◌, ◌^◌, ◌<◌, ◌≤◌, List, [], ◌∷◌, length, Bool, true, false, ◌&&◌, refl, ◌∙◌, sym, subst, inl, inr, arith, Some, None, Option}
use Rattle.std.specs.Prelude.{◌==◌, nat_lt, if◌then◌else◌, IfSome}
use Rattle.std.specs.List.{concat}
use Rattle.tg_base.specs.Layouts.{Layout, IsLayout}
use Rattle.tg_base.specs.Changes.{Changed}
use Rattle.tg_base.specs.Clusters.{Header}
use Rattle.tg_base.specs.declared.change.Join.{Join}
use Rattle.tg_base.specs.declared.layout.Range.{Range}
use Rattle.tg_kind.specs.Meaning.{Meaning}
use Rattle.tg_proj.specs.Follows.{IsJoined}
use Rattle.tg_proj.specs.Next.{kept, joined, next_chain, next_chains, next_range, next_ranges, next_layout, opened_at}
use Rattle.tg_proj.specs.Places.{range_at}
use Rattle.tg_proj.specs.Refusals.{units_of as units_in}
use Rattle.tg_proj.proofs.Chains.{units_of-append}
use Rattle.tg_proj.proofs.Following.{next_follows}
use Rattle.tg_protocol.specs.Words.{with_num, with_nums}
use Rattle.tg_protocol.specs.Layouts.{next_of, next_units, units_of, change_fault, first_layout}
use Rattle.tg_protocol.specs.Requests.{Waits}
use Rattle.tg_protocol.specs.Trimming.{has_stripe}
use Rattle.tg_protocol.specs.Reconfiguring.{Acks, ReconfWork, SealingSpare, LookingSpare, Sealing, LookingAgain, Reconf, next_epoch}
use Rattle.tg_protocol.specs.Worlds.{World, start, unit, client}
use Rattle.tg_protocol.specs.Runs.{Moves, Reaches}
use Rattle.tg_law_layouts.specs.Moves.After.{after}
use Rattle.tg_law_layouts.specs.Moves.Configs.{Config, config}
use Rattle.tg_law_layouts.proofs.Moves.Always.{lawful_give}
use Rattle.tg_law_layouts.proofs.Moves.Members.{Has, has_left, has_right}
use Rattle.tg_law_layouts.proofs.Moves.Moves.{Cases}
use Rattle.tg_law_layouts.proofs.Requests.Starts.{All, start_all, known}
use Rattle.tg_law_layouts.proofs.Requests.Told.{seal_holds}
use Rattle.tg_law_layouts.proofs.Layouts.Decided.{Lay, start_lay}
use Rattle.tg_law_layouts.proofs.Layouts.Decisions.{Pax}
use Rattle.tg_law_layouts.proofs.Layouts.Layouts.{start_pax, has_header}
use Rattle.tg_law_layouts.proofs.Layouts.Pax.{reconf_of}
use Rattle.tg_law_layouts.proofs.Layouts.Standing.{IsKnown}
use Rattle.tg_law_layouts.proofs.Layouts.Successions.{Sealed, WorkGood, ReconfGood}
use Rattle.tg_law_layouts.proofs.Layouts.Succeeding.{Any, Succ, low_keeps, succ_holds}
use Rattle.tg_law_finish.proofs.Finish.Stripes.{step_of, first_of, missed, missed_in, ends_low}
use Rattle.tg_law_reconfs.proofs.Looks.{AsksNear}

-- What a list of units has.

num_here : (x : ℕ) (ys : List ℕ) → Has (with_num x ys) x
num_here x [] = inl refl
num_here x (y ∷ ys) = by (x == y) (nat_lt x y) refl (num_here x ys)
  where
    same : (x y : ℕ) → (x == y) ≡ true → x ≡ y
    same x y e = grind arith

    by : (b a : Bool) → (x == y) ≡ b → Has (with_num x ys) x → Has (if a then x ∷ y ∷ ys else (if b then y ∷ ys else y ∷ with_num x ys)) x
    by b true e has = inl refl
    by true false e has = inl (same x y e)
    by false false e has = inr has

num_more : (x u : ℕ) (ys : List ℕ) → Has ys u → Has (with_num x ys) u
num_more x u [] has = absurd has
num_more x u (y ∷ ys) has = by (nat_lt x y) (x == y) has (λ g. num_more x u ys g)
  where
    by : (a b : Bool) → Has (y ∷ ys) u → (Has ys u → Has (with_num x ys) u) → Has (if a then x ∷ y ∷ ys else (if b then y ∷ ys else y ∷ with_num x ys)) u
    by true b has more = inr has
    by false true has more = has
    by false false (inl e) more = inl e
    by false false (inr has) more = inr (more has)

nums_have : (xs : List ℕ) (u : ℕ) → Has xs u → Has (with_nums xs []) u
nums_have [] u has = absurd has
nums_have (x ∷ xs) u (inl e) = subst (λ (v : ℕ). Has (with_num x (with_nums xs [])) v) (sym e) (num_here x (with_nums xs []))
nums_have (x ∷ xs) u (inr has) = num_more x u (with_nums xs []) (nums_have xs u has)

-- A unit that joins is one of the next layout's.

module _ (c : Changed) (j : Join) (is : c.join ≡ Some j) where
  joined_has : (n k : ℕ) → j.range ≡ n → j.stripe ≡ k → Has (joined c.join n k) j.unit
  joined_has n k range stripe = subst (λ (o : Option Join). Has (joined o n k) j.unit) (sym is) (by (j.range == n && j.stripe == k) (same j.range n j.stripe k range stripe))
    where
      same : (a b x y : ℕ) → a ≡ b → x ≡ y → (a == b && x == y) ≡ true
      same a b x y e f = grind (arith, e, f)

      by : (b : Bool) → b ≡ true → Has (if b then j.unit ∷ [] else []) j.unit
      by true e = inl refl
      by false e = absurd cc

  in_chains : (n k i : ℕ) (xs : List (List ℕ)) → j.range ≡ n → j.stripe ≡ k + i → i < length xs → Has (concat (next_chains c n k xs)) j.unit
  in_chains n k i [] range stripe less = absurd (omega (arith, less))
  in_chains n k zero (x ∷ xs) range stripe less = has_left (next_chain c n k x) (concat (next_chains c n (k + 1) xs)) j.unit (has_right (kept c.drop x) (joined c.join n k) j.unit (joined_has n k range (omega (arith, stripe))))
  in_chains n k (suc i) (x ∷ xs) range stripe less = has_right (next_chain c n k x) (concat (next_chains c n (k + 1) xs)) j.unit (in_chains n (k + 1) i xs range (omega (arith, stripe)) (omega (arith, less)))

  in_ranges : (n i : ℕ) (rs : List Range) → j.range ≡ n + i → i < length rs → j.stripe < length (range_at rs i).stripes → Has (units_in (next_ranges c n rs)) j.unit
  in_ranges n i [] range less there = absurd (omega (arith, less))
  in_ranges n zero (r ∷ rs) range less there = has_left (concat (next_range c n r).stripes) (units_in (next_ranges c (n + 1) rs)) j.unit (in_chains n 0 j.stripe r.stripes (omega (arith, range)) (omega arith) there)
  in_ranges n (suc i) (r ∷ rs) range less there = has_right (concat (next_range c n r).stripes) (units_in (next_ranges c (n + 1) rs)) j.unit (in_ranges (n + 1) i rs (omega (arith, range)) (omega (arith, less)) there)

  stands_next : (p : Layout) → j.range < length p.ranges → j.stripe < length (range_at p.ranges j.range).stripes → Has (next_units p c) j.unit
  unfolding next_of units_of
  stands_next p closed there = nums_have (units_in (next_layout p c 0 0).ranges) j.unit (subst (λ (us : List ℕ). Has us j.unit) (sym (units_of-append (next_ranges c 0 p.ranges) (opened_at c.opened 0)))
      (has_left (units_in (next_ranges c 0 p.ranges)) (units_in (opened_at c.opened 0)) j.unit (in_ranges 0 j.range p.ranges (omega arith) closed there)))

  -- where the change may be made
  module _ (p : Layout) (rules : IsLayout p) (allowed : change_fault p c ≡ None) where
    is_joined : IsJoined p (next_layout p c 0 p.start) j
    unfolding change_fault
    is_joined = subst (λ (o : Option Join). IfSome o (IsJoined p (next_layout p c 0 p.start))) is (next_follows p c 0 p.start rules (record { allowed = allowed; later = omega arith })).join

    pub is_next : Has (next_units p c) j.unit
    is_next = let y = is_joined in let closed = y.closed in stands_next p (omega (arith, closed)) y.there

    pub lacks_near : (e : ℕ) → p.start < 2 ^ 62 → AsksNear (has_stripe e p j.range j.stripe)
    lacks_near e near x n lacks =
        let y = is_joined in
        let there = y.there in
        let z = missed x (step_of p j.range) _ (first_of p j.range j.stripe) n lacks in
        let within = missed_in p j.range j.stripe n x (omega (arith, there)) z in
        let below = within.below in
        let ends = ends_low p j.range j.stripe rules y.closed there in
        omega (arith, below, ends, near)

-- What a client has in hand.

-- each unit of the next layout is sealed, or waited for
pub record InHand (m : Meaning) (w : World m) (r : Reconf) : Type 0 where
  pub allowed : change_fault r.stand r.change ≡ None
  pub sealed : (ws : Waits) (acks : Acks) → r.work ≡ Sealing ws acks → (u : ℕ) → Has (next_units r.stand r.change) u → ((i : ℕ) × Has ws (u, i)) ⊎ (next_epoch r ≤ (unit m w u).epoch)

-- it seals or looks
abbrev pub AsksUnits : ReconfWork → Type 0
AsksUnits (SealingSpare n) = Unit {0}
AsksUnits (LookingSpare n) = Unit {0}
AsksUnits (Sealing ws acks) = Unit {0}
AsksUnits (LookingAgain n acks) = Unit {0}
AsksUnits w = ⊥

module _ (m : Meaning) (h : Header) (ms : Moves m) where
  abbrev end : World m
  end = after m h ms

  abbrev Anywhere : Config m → Type 0
  Anywhere c = Unit {0}

  abbrev Low' : Config m → Type 0
  Low' c = (Pax m c × Lay m c) × All m c

  abbrev Known : Layout → Type 0
  Known q = IsKnown h.layouts (first_layout h) end.packets q

  back : (c : Config m) → Low' c → Cases m c (λ d. Low' d → Anywhere d → Anywhere c)
  back c b = record { idle = λ x y. tt; unit = λ u p a less x y. tt; layout = λ l p a less x y. tt; seqr = λ n t i less x y. tt; client = λ n t i less x y. tt }

  good : Reaches m h ms end → (k : ℕ) → ReconfGood m end.packets Known Any (reconf_of m (client m end k).work)
  good r k = succ.hands k
    where
      succ : Succ m h end.packets Any Anywhere (config m end)
      succ = succ_holds m h end.packets Any Anywhere Low' (λ c b. b) (low_keeps m h end.packets Any Anywhere) (λ g. ((start_pax m g, start_lay m g), start_all m g)) Anywhere (λ ys z. tt)
          back (λ c z b a s k r acks hand x l. tt) ms (lawful_give m (start m h).cluster ms r.goes.lawful) (record { cluster = has_header m h ms; sent = λ x i. i; ahead = tt })

  sealed_in : (r : Reconf) (ws : Waits) (acks : Acks) → Sealed end.packets Known Any r ws acks → (u : ℕ) → Has (next_units r.stand r.change) u → ((i : ℕ) × Has ws (u, i)) ⊎ (next_epoch r ≤ (unit m end u).epoch)
  sealed_in r ws acks s u has = by (s.cover u has)
    where
      by : ((i : ℕ) × Has ws (u, i)) ⊎ ((i : ℕ) × Has acks (u, i)) → ((i : ℕ) × Has ws (u, i)) ⊎ (next_epoch r ≤ (unit m end u).epoch)
      by (inl x) = inl x
      by (inr x) = inr (seal_holds m (config m end) u (next_epoch r) x.0 (known m h ms) (s.ok u x.0 x.1).0)

  in_hand : (r : Reconf) (w : ReconfWork) → r.work ≡ w → AsksUnits w → WorkGood end.packets Known Any r w → InHand m end r
  in_hand r (SealingSpare n) at f g = record { allowed = g.allowed; sealed = λ ws acks e. absurd (other n ws acks (sym at ∙ e)) }
    where
      other : (n : ℕ) (ws : Waits) (acks : Acks) → SealingSpare n ≡ Sealing ws acks → ⊥
      other n ws acks e = cc
  in_hand r (LookingSpare n) at f g = record { allowed = g.allowed; sealed = λ ws acks e. absurd (other n ws acks (sym at ∙ e)) }
    where
      other : (n : ℕ) (ws : Waits) (acks : Acks) → LookingSpare n ≡ Sealing ws acks → ⊥
      other n ws acks e = cc
  in_hand r (Sealing ws acks) at f g = record { allowed = g.early.allowed; sealed = λ vs more e u has. subst (λ (z : Waits). ((i : ℕ) × Has z (u, i)) ⊎ (next_epoch r ≤ (unit m end u).epoch)) (same ws vs acks more (sym at ∙ e)) (sealed_in r ws acks g u has) }
    where
      same : (ws vs : Waits) (acks more : Acks) → Sealing ws acks ≡ Sealing vs more → ws ≡ vs
      same ws vs acks more e = cc
  in_hand r (LookingAgain n acks) at f g = record { allowed = g.early.allowed; sealed = λ ws more e. absurd (other n acks ws more (sym at ∙ e)) }
    where
      other : (n : ℕ) (acks : Acks) (ws : Waits) (more : Acks) → LookingAgain n acks ≡ Sealing ws more → ⊥
      other n acks ws more e = cc
  in_hand r w at f g = absurd f

  here : Reaches m h ms end → (k : ℕ) (r : Reconf) → reconf_of m (client m end k).work ≡ Some r → AsksUnits r.work → InHand m end r
  here reach k r is f = in_hand r r.work refl f (subst (λ (o : Option Reconf). ReconfGood m end.packets Known Any o) is (good reach k))

pub changes_in_hand : (m : Meaning) (h : Header) (ms : Moves m) (w : World m) → Reaches m h ms w → (k : ℕ) (r : Reconf) → reconf_of m (client m w k).work ≡ Some r → AsksUnits r.work → InHand m w r
changes_in_hand m h ms w reach = subst (λ (v : World m). Reaches m h ms v → (k : ℕ) (r : Reconf) → reconf_of m (client m v k).work ≡ Some r → AsksUnits r.work → InHand m v r) (sym reach.goes.is) (here m h ms) reach
