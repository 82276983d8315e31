-- What a reconfiguration knows of its change, its acks and its proposals: the machine's part of how layouts follow each other.
use Rattle.std.proofs.Common.{◌≡◌, ◌⊎◌, ℕ, ◌+◌, ◌^◌, ◌≤◌, ◌<◌, List, [], ◌∷◌, ◌++◌, map, Bool, true, false, not, cond, refl, sym, ap, ◌∙◌, subst, inl, inr, arith, Some, None, Option}
use Rattle.std.specs.Prelude.{if◌then◌else◌, ◌==◌, nat_lt, max}
use Rattle.tg_base.specs.Layouts.{Layout}
use Rattle.tg_base.specs.Changes.{Changed, IsChange}
use Rattle.tg_base.specs.declared.change.Join.{Join}
use Rattle.tg_base.specs.declared.ids.Ballot.{Ballot}
use Rattle.tg_base.specs.declared.msg.Msg.TheVariants as msg
use Rattle.tg_base.specs.declared.packet.Packet.{Packet}
use Rattle.tg_proj.specs.Next.{next_layout, next_ranges, opened_at}
use Rattle.tg_proj.specs.Refusals.{units_of as units_in, new_start}
use Rattle.tg_proj.proofs.Allowed.{later_start}
use Rattle.tg_proj.proofs.Chains.{units_of-append, units_of-opened}
use Rattle.tg_protocol.specs.Words.{unit_id, with_num, with_nums}
use Rattle.tg_protocol.specs.Layouts.{units_of, next_of, next_units, change_fault}
use Rattle.tg_protocol.specs.Requests.{Waits, waits_for, without_wait, Next, Goes, Learns, Ends, awaits}
use Rattle.tg_protocol.specs.Replies.{Reply, reply}
use Rattle.tg_protocol.specs.Replies as replied
use Rattle.tg_protocol.specs.Trimming.{has_stripe}
use Rattle.tg_protocol.specs.Following.{acks_of}
use Rattle.tg_protocol.specs.Reconfiguring.{Acks, Before, Stage, Preparing, Accepting, Voting, ReconfWork, SealingSpare, LookingSpare, Sealing, LookingAgain, Agreeing, Reconf, ReconfEnd, Installed, Overtaken, NotWhole, reconf_start, ReconfTurn, next_epoch, seals, first_step, proposes, greater, greatest, value_or, at_work, reconf_feed, reconf_latest}
use Rattle.tg_law_steps.proofs.Machines.Reconfs as reconfs
use Rattle.tg_law_layouts.proofs.Moves.Members.{Has, has_map, has_filter}
use Rattle.tg_law_layouts.proofs.Requests.Told.{Seals}
use Rattle.tg_kind.specs.Meaning.{Meaning}
use Rattle.tg_model.specs.Kinds.{CommandOf}
use Rattle.tg_model.specs.declared.refusal.Refusal.{Refusal}
use Rattle.tg_model.specs.declared.command.Command.TheVariants as cmd
use Rattle.tg_protocol.specs.Clients.{Task, Reconfiguring, Hand, Doing, Work, Client}
use Rattle.tg_protocol.specs.Answers.{Moved}
use Rattle.tg_protocol.specs.ClientSteps.{task_awaited, task_in, stands, accepts, new_work, refused_or, reconf_to, on_reconf, after_turn}
use Rattle.tg_protocol.specs.ClientSteps as step
use Rattle.tg_law_layouts.proofs.Layouts.Plain.{WorkCalm, Plain, accepts_plain, Fed, Heard, delivered_plain}
use Rattle.tg_law_layouts.proofs.Layouts.Pax.{task_reconf, reconf_of, calm_none}

-- what is known of each proposal besides is X
module _ (ps : List Packet) (K : Layout → Type 0) (X : Layout → Type 0) where
  -- sealed for a layout, with nothing at or past its start
  pub record Acked (u : ℕ) (q : Layout) : Type 0 where
    pub high : ℕ
    pub sealed : Seals ps u q.epoch high
    pub under : high ≤ q.start

  -- the unit that joins has answered in this epoch that it has all of its stripe
  pub record Whole (e : ℕ) (p : Layout) (j : Join) : Type 0 where
    pub ask : Packet
    pub answer : Packet
    pub asked : Has ps ask
    pub answered : Has ps answer
    pub to : ask.to ≡ unit_id j.unit
    pub look : ask.msg ≡ has_stripe e p j.range j.stripe
    pub from : answer.from ≡ unit_id j.unit
    pub back : answer.to ≡ ask.from
    pub number : answer.rid ≡ ask.rid
    pub is : answer.msg ≡ msg.Whole

  -- made of a decided layout by a change that may be made, after the seals
  pub record Good (q : Layout) : Type 0 where
    pub old : Layout
    pub known : K old
    pub change : Changed
    pub is : q ≡ next_of old change q.by q.start
    pub allowed : change_fault old change ≡ None
    pub lawful : IsChange change
    pub later : old.start ≤ q.start
    pub high : ℕ → ℕ
    pub sealed : (u : ℕ) → Has (units_of q) u → Seals ps u q.epoch (high u)
    pub starts : q.start ≡ new_start old.start (acks_of q high)
    pub whole : (j : Join) → change.join ≡ Some j → Whole q.epoch old j
    pub more : X q
    pub acked : (u : ℕ) → Has (units_in q.ranges) u → Acked u q
    pub near : old.start < 2 ^ 62 → q.start < 2 ^ 62

  abbrev pub AcksOk : ℕ → Acks → Type 0
  AcksOk e acks = (u h : ℕ) → Has acks (u, h) → Seals ps u e h × (h < 2 ^ 62)

  abbrev pub Among : List (ℕ × ℕ) → ℕ → Type 0
  Among ws u = (r : ℕ) × Has ws (u, r)

  -- each of these units has acknowledged, or is waited for
  abbrev pub Covers : List ℕ → Waits → Acks → Type 0
  Covers us ws acks = (u : ℕ) → Has us u → Among ws u ⊎ Among acks u

  -- only units of the next layout are waited for, or have acknowledged
  abbrev pub Within : List ℕ → Waits → Type 0
  Within us ws = (u r : ℕ) → Has ws (u, r) → Has us u

  pub record Early (r : Reconf) : Type 0 where
    pub known : K r.stand
    pub allowed : change_fault r.stand r.change ≡ None
    pub lawful : IsChange r.change

  abbrev pub IsLooked : Reconf → Type 0
  IsLooked r = (j : Join) → r.change.join ≡ Some j → Whole (next_epoch r) r.stand j

  pub record Sealed (r : Reconf) (ws : Waits) (acks : Acks) : Type 0 where
    pub early : Early r
    pub ok : AcksOk (next_epoch r) acks
    pub cover : Covers (next_units r.stand r.change) ws acks
    pub waited : Within (next_units r.stand r.change) ws
    pub acked : Within (next_units r.stand r.change) acks

  abbrev pub StageGood : Stage → Type 0
  StageGood (Preparing ws hs) = (b : Ballot × Layout) → Has hs (Some b) → Good b.1
  StageGood (Accepting ws n q) = Good q

  abbrev pub WorkGood : Reconf → ReconfWork → Type 0
  WorkGood r (Sealing ws acks) = Sealed r ws acks
  WorkGood r (LookingAgain k acks) = Sealed r [] acks
  WorkGood r (Agreeing v) = Good v.own × StageGood v.stage
  WorkGood r (SealingSpare k) = Early r
  WorkGood r (LookingSpare k) = Early r
  WorkGood r w = Unit {0}

  abbrev pub NextGood : Next Reconf ReconfEnd → Type 0
  NextGood (Goes s) = WorkGood s s.work
  NextGood (Learns s) = WorkGood s s.work
  NextGood (Ends e) = Unit {0}

  -- The units of a layout, rising.

  num_here : (x : ℕ) (ys : List ℕ) → Has (with_num x ys) x
  num_here x [] = inl refl
  num_here x (y ∷ ys) = by (nat_lt x y) (x == y) refl (num_here x ys)
    where
      same : (x y : ℕ) → (x == y) ≡ true → x ≡ y
      same x y h = grind arith

      by : (a b : Bool) → (x == y) ≡ b → Has (with_num x ys) x → Has (if a then x ∷ y ∷ ys else (if b then y ∷ ys else y ∷ with_num x ys)) x
      by true b e h = inl refl
      by false true e h = inl (same x y e)
      by false false e h = inr h

  num_more : (x u : ℕ) (ys : List ℕ) → Has ys u → Has (with_num x ys) u
  num_more x u [] h = absurd h
  num_more x u (y ∷ ys) h = by (nat_lt x y) (x == y) h (λ g. num_more x u ys g)
    where
      by : (a b : Bool) → Has (y ∷ ys) u → (Has ys u → Has (with_num x ys) u) → Has (if a then x ∷ y ∷ ys else (if b then y ∷ ys else y ∷ with_num x ys)) u
      by true b h f = inr h
      by false true h f = h
      by false false (inl e) f = inl e
      by false false (inr g) f = inr (f g)

  rising_has : (xs : List ℕ) (u : ℕ) → Has xs u → Has (with_nums xs []) u
  rising_has [] u h = h
  rising_has (x ∷ xs) u (inl e) = subst (λ v. Has (with_num x (with_nums xs [])) v) (sym e) (num_here x (with_nums xs []))
  rising_has (x ∷ xs) u (inr h) = num_more x u (with_nums xs []) (rising_has xs u h)

  -- which units stand doesn't hang on the start
  same_units : (p : Layout) (c : Changed) (by start : ℕ) → units_in (next_layout p c by start).ranges ≡ units_in (next_layout p c 0 0).ranges
  same_units p c by start =
      units_of-append (next_ranges c 0 p.ranges) (opened_at c.opened start)
      ∙ (ap (λ us. units_in (next_ranges c 0 p.ranges) ++ us) (units_of-opened c.opened start ∙ sym (units_of-opened c.opened 0))
      ∙ sym (units_of-append (next_ranges c 0 p.ranges) (opened_at c.opened 0)))

  sealed_units : (p : Layout) (c : Changed) (by start u : ℕ) → Has (units_in (next_of p c by start).ranges) u → Has (next_units p c) u
  unfolding next_of units_of
  sealed_units p c by start u h = rising_has (units_in (next_layout p c 0 0).ranges) u (subst (λ us. Has us u) (same_units p c by start) h)

  -- The proposal.

  fold_up : (acks : Acks) (s : ℕ) → s ≤ new_start s acks
  fold_up acks s = later_start s acks

  ack_under : (acks : Acks) (s u h : ℕ) → Has acks (u, h) → h ≤ new_start s acks
  ack_under [] s u h g = absurd g
  ack_under (a ∷ acks) s u h (inl e) = let up = fold_up acks (max s a.1) in let i = ap (λ (x : ℕ × ℕ). x.1) e in let m = above s a.1 in omega (arith, up, i, m)
    where
      above : (s x : ℕ) → x ≤ max s x
      above s x = grind arith
  ack_under (a ∷ acks) s u h (inr g) = ack_under acks (max s a.1) u h g

  start_near : (acks : Acks) (s : ℕ) → s < 2 ^ 62 → ((u h : ℕ) → Has acks (u, h) → h < 2 ^ 62) → new_start s acks < 2 ^ 62
  start_near [] s n f = n
  start_near (a ∷ acks) s n f = start_near acks (max s a.1) (both s a.1 n (f a.0 a.1 (inl refl))) (λ u h g. f u h (inr g))
    where
      both : (s x : ℕ) → s < 2 ^ 62 → x < 2 ^ 62 → max s x < 2 ^ 62
      both s x a b = grind arith

  new_least : (acks : Acks) (s n : ℕ) → s ≤ n → ((u h : ℕ) → Has acks (u, h) → h ≤ n) → new_start s acks ≤ n
  new_least [] s n le f = le
  new_least (a ∷ acks) s n le f = new_least acks (max s a.1) n (both s a.1 n le (f a.0 a.1 (inl refl))) (λ u h g. f u h (inr g))
    where
      both : (s x n : ℕ) → s ≤ n → x ≤ n → max s x ≤ n
      both s x n a b = grind arith

  -- the greatest that a unit has acknowledged
  abbrev high_if : Bool → ℕ → ℕ → ℕ
  high_if b h n = if b then max h n else n

  abbrev high_of : Acks → ℕ → ℕ
  high_of [] u = 0
  high_of (a ∷ acks) u = high_if (a.0 == u) a.1 (high_of acks u)

  equal : (x y : ℕ) → (x == y) ≡ true → x ≡ y
  equal x y h = grind arith

  other : (x y : ℕ) → (x == y) ≡ false → x ≡ y → ⊥
  other x y h e = grind arith

  -- either some ack is the unit's greatest, or none is the unit's
  high_or : (acks : Acks) (u : ℕ) → Has acks (u, high_of acks u) ⊎ ((high_of acks u ≡ 0) × ((h : ℕ) → Has acks (u, h) → ⊥))
  high_or [] u = inr (refl, (λ h g. g))
  high_or (a ∷ acks) u = by (a.0 == u) refl (high_or acks u)
    where
      most : (h n : ℕ) → (max h n ≡ h) ⊎ (max h n ≡ n)
      most h n = grind arith

      none : (h n : ℕ) → n ≡ 0 → max h n ≡ h
      none h n e = grind arith

      pair : (a : ℕ × ℕ) (u n : ℕ) → a.0 ≡ u → n ≡ a.1 → (u, n) ≡ a
      pair a u n e i = λ k. (sym e k, i k)

      by : (b : Bool) → (a.0 == u) ≡ b → Has acks (u, high_of acks u) ⊎ ((high_of acks u ≡ 0) × ((h : ℕ) → Has acks (u, h) → ⊥))
          → Has (a ∷ acks) (u, high_if b a.1 (high_of acks u)) ⊎ ((high_if b a.1 (high_of acks u) ≡ 0) × ((h : ℕ) → Has (a ∷ acks) (u, h) → ⊥))
      by true e (inl i) = which (most a.1 (high_of acks u))
        where
          which : (max a.1 (high_of acks u) ≡ a.1) ⊎ (max a.1 (high_of acks u) ≡ high_of acks u) → Has (a ∷ acks) (u, max a.1 (high_of acks u)) ⊎ ((max a.1 (high_of acks u) ≡ 0) × ((h : ℕ) → Has (a ∷ acks) (u, h) → ⊥))
          which (inl s) = inl (inl (pair a u _ (equal a.0 u e) s))
          which (inr s) = inl (inr (subst (λ (n : ℕ). Has acks (u, n)) (sym s) i))
      by true e (inr i) = inl (inl (pair a u _ (equal a.0 u e) (none a.1 (high_of acks u) i.0)))
      by false e (inl i) = inl (inr i)
      by false e (inr i) = inr (i.0, (λ h g. no h g))
        where
          no : (h : ℕ) → Has (a ∷ acks) (u, h) → ⊥
          no h (inl g) = other a.0 u e (sym (ap (λ (x : ℕ × ℕ). x.0) g))
          no h (inr g) = i.1 h g

  high_has : (acks : Acks) (u h : ℕ) → Has acks (u, h) → Has acks (u, high_of acks u)
  high_has acks u h g = by (high_or acks u)
    where
      by : Has acks (u, high_of acks u) ⊎ ((high_of acks u ≡ 0) × ((h : ℕ) → Has acks (u, h) → ⊥)) → Has acks (u, high_of acks u)
      by (inl i) = i
      by (inr i) = absurd (i.1 h g)

  high_up : (acks : Acks) (u h : ℕ) → Has acks (u, h) → h ≤ high_of acks u
  high_up [] u h g = absurd g
  high_up (a ∷ acks) u h (inl e) = here (a.0 == u) refl
    where
      up : (h n : ℕ) → h ≤ max h n
      up h n = grind arith

      here : (b : Bool) → (a.0 == u) ≡ b → h ≤ high_if b a.1 (high_of acks u)
      here true i = subst (λ (n : ℕ). n ≤ max a.1 (high_of acks u)) (sym (ap (λ (x : ℕ × ℕ). x.1) e)) (up a.1 (high_of acks u))
      here false i = absurd (other a.0 u i (sym (ap (λ (x : ℕ × ℕ). x.0) e)))
  high_up (a ∷ acks) u h (inr g) = there (a.0 == u) (high_up acks u h g)
    where
      up : (x n h : ℕ) → h ≤ n → h ≤ max x n
      up x n h le = grind arith

      there : (b : Bool) → h ≤ high_of acks u → h ≤ high_if b a.1 (high_of acks u)
      there true le = up a.1 (high_of acks u) h le
      there false le = le

  acks_at : (us : List ℕ) (f : ℕ → ℕ) (u : ℕ) → Has us u → Has {X = ℕ × ℕ} (map (λ (v : ℕ). (v, f v)) us) (u, f u)
  acks_at [] f u h = absurd h
  acks_at (x ∷ us) f u (inl e) = inl (ap (λ (v : ℕ). (v, f v)) e)
  acks_at (x ∷ us) f u (inr h) = inr (acks_at us f u h)

  covered : (us : List ℕ) (acks : Acks) → Covers us [] acks → (u : ℕ) → Has us u → Has acks (u, high_of acks u)
  covered us acks c u h = by (c u h)
    where
      by : Among [] u ⊎ Among acks u → Has acks (u, high_of acks u)
      by (inl a) = absurd a.1
      by (inr a) = high_has acks u a.0 a.1

  -- the greatest of all acks is the greatest of the units' greatest ones
  same_start : (us : List ℕ) (acks : Acks) (s : ℕ) → Covers us [] acks → Within us acks → new_start s acks ≡ new_start s (map (λ (v : ℕ). (v, high_of acks v)) us)
  same_start us acks s c w = let a = down in let b = up in omega (arith, a, b)
    where
      of : Acks
      of = map (λ (v : ℕ). (v, high_of acks v)) us

      down : new_start s acks ≤ new_start s (map (λ (v : ℕ). (v, high_of acks v)) us)
      down = new_least acks s _ (fold_up of s) (λ u h g. let x = high_up acks u h g in let y = ack_under of s u (high_of acks u) (acks_at us (high_of acks) u (w u h g)) in omega (arith, x, y))

      up : new_start s (map (λ (v : ℕ). (v, high_of acks v)) us) ≤ new_start s acks
      up = new_least of s _ (fold_up acks s) each
        where
          each : (u h : ℕ) → Has {X = ℕ × ℕ} (map (λ (v : ℕ). (v, high_of acks v)) us) (u, h) → h ≤ new_start s acks
          each u h g =
              let i = has_map (λ (v : ℕ). (v, high_of acks v)) us (u, h) g in
              let e = ap (λ (x : ℕ × ℕ). x.1) i.is in
              let le = ack_under acks s i.of (high_of acks i.of) (covered us acks c i.of i.has) in
              omega (arith, e, le)

  units_are : (p : Layout) (c : Changed) (by start : ℕ) → units_of (next_of p c by start) ≡ next_units p c
  unfolding next_of units_of
  units_are p c by start = ap (λ (us : List ℕ). with_nums us []) (same_units p c by start)

  -- a reconfiguration's own proposal
  abbrev pub own_of : Reconf → Acks → Layout
  own_of r acks = next_of r.stand r.change r.me (new_start r.stand.start acks)

  -- what is known of it once nothing more is looked at
  abbrev pub Ready : Reconf → Type 0
  Ready r = (acks : Acks) → Sealed r [] acks → IsLooked r → X (own_of r acks)

  own_good : (r : Reconf) (acks : Acks) → Sealed r [] acks → IsLooked r → X (own_of r acks) → Good (next_of r.stand r.change r.me (new_start r.stand.start acks))
  unfolding next_of
  own_good r acks s whole x = record {
    old = r.stand;
    known = s.early.known;
    change = r.change;
    is = refl;
    allowed = s.early.allowed;
    lawful = s.early.lawful;
    later = later_start r.stand.start acks;
    high = high_of acks;
    sealed = λ u g. (s.ok u (high_of acks u) (covered (next_units r.stand r.change) acks s.cover u (subst (λ (us : List ℕ). Has us u) (units_are r.stand r.change r.me start) g))).0;
    starts = same_start (next_units r.stand r.change) acks r.stand.start s.cover s.acked ∙ ap (λ (us : List ℕ). new_start r.stand.start (map (λ (v : ℕ). (v, high_of acks v)) us)) (sym (units_are r.stand r.change r.me start));
    whole = whole;
    more = x;
    acked = λ u h. by u (s.cover u (sealed_units r.stand r.change r.me start u h));
    near = λ n. start_near acks r.stand.start n (λ u h g. (s.ok u h g).1);
  }
    where
      start : ℕ
      start = new_start r.stand.start acks

      by : (u : ℕ) → Among [] u ⊎ Among acks u → Acked u (next_layout r.stand r.change r.me (new_start r.stand.start acks))
      by u (inl a) = absurd a.1
      by u (inr a) = record { high = a.0; sealed = (s.ok u a.0 a.1).0; under = ack_under acks r.stand.start u a.0 a.1 }

  -- The waits.

  waits_at : (us : List ℕ) (n u : ℕ) → Has us u → Among (waits_for us n) u
  waits_at [] n u h = absurd h
  waits_at (x ∷ us) n u (inl e) = (n, inl (ap (λ v. (v, n)) e))
  waits_at (x ∷ us) n u (inr h) = let w = waits_at us (n + 1) u h in (w.0, inr w.1)

  waits_within : (us : List ℕ) (n : ℕ) → Within us (waits_for us n)
  waits_within [] n u r h = absurd h
  waits_within (x ∷ us) n u r (inl e) = inl (ap (λ (y : ℕ × ℕ). y.0) e)
  waits_within (x ∷ us) n u r (inr h) = inr (waits_within us (n + 1) u r h)

  within_more : (us : List ℕ) (acks : Acks) (n h : ℕ) → Has us n → Within us acks → Within us ((n, h) ∷ acks)
  within_more us acks n h g w u r (inl e) = subst (λ (v : ℕ). Has us v) (sym (ap (λ (y : ℕ × ℕ). y.0) e)) g
  within_more us acks n h g w u r (inr i) = w u r i

  without_by : (b : Bool) (w : ℕ × ℕ) (n u : ℕ) (ws : Waits) → not (w.0 == n) ≡ b → Has (w ∷ ws) (u, n) → Has ws (u, n) ⊎ (w ≡ (u, n))
  without_by b w n u ws e (inl i) = inr (sym i)
  without_by b w n u ws e (inr h) = inl h

  keep_wait : (b : Bool) (w x : ℕ × ℕ) (ws : Waits) → b ≡ true → x ≡ w → Has (cond b (w ∷ ws) ws) x
  keep_wait true w x ws e i = inl i
  keep_wait false w x ws e i = absurd (cc)

  more_wait : (b : Bool) (w x : ℕ × ℕ) (ws : Waits) → Has ws x → Has (cond b (w ∷ ws) ws) x
  more_wait true w x ws h = inr h
  more_wait false w x ws h = h

  still_waits : (n : ℕ) (ws : Waits) (x : ℕ × ℕ) → Has ws x → not (x.0 == n) ≡ true → Has (without_wait n ws) x
  still_waits n [] x h e = absurd h
  still_waits n (w ∷ ws) x (inl i) e = keep_wait (not (w.0 == n)) w x (without_wait n ws) (subst (λ (y : ℕ × ℕ). not (y.0 == n) ≡ true) i e) i
  still_waits n (w ∷ ws) x (inr h) e = more_wait (not (w.0 == n)) w x (without_wait n ws) (still_waits n ws x h e)

  covers_more : (us : List ℕ) (ws : Waits) (acks : Acks) (n h : ℕ) → Covers us ws acks → Covers us (without_wait n ws) ((n, h) ∷ acks)
  covers_more us ws acks n h c u g = by (u == n) refl (c u g)
    where
      same : (x y : ℕ) → (x == y) ≡ true → x ≡ y
      same x y e = grind arith

      no : (b : Bool) → b ≡ false → not b ≡ true
      no b e = grind arith

      by : (b : Bool) → (u == n) ≡ b → Among ws u ⊎ Among acks u → Among (without_wait n ws) u ⊎ Among ((n, h) ∷ acks) u
      by b e (inr a) = inr (a.0, inr a.1)
      by true e (inl a) = inr (h, inl (ap (λ v. (v, h)) (same u n e)))
      by false e (inl a) = inl (a.0, still_waits n ws (u, a.0) a.1 (no (u == n) e))

  acks_more : (e : ℕ) (acks : Acks) (n h : ℕ) → Seals ps n e h × (h < 2 ^ 62) → AcksOk e acks → AcksOk e ((n, h) ∷ acks)
  acks_more e acks n h s ok u g (inl i) = subst (λ (x : ℕ × ℕ). Seals ps x.0 e x.1 × (x.1 < 2 ^ 62)) (sym i) s
  acks_more e acks n h s ok u g (inr i) = ok u g i

  -- The steps before the votes.

  seals_good : (r : Reconf) (next : ℕ) → Early r → NextGood (seals r next).to
  seals_good r next e = record {
    early = record { known = e.known; allowed = e.allowed; lawful = e.lawful };
    ok = λ u h g. absurd g;
    cover = λ u g. inl (waits_at (next_units r.stand r.change) next u g);
    waited = waits_within (next_units r.stand r.change) next;
    acked = λ u h g. absurd g;
  }

  proposes_good : (r : Reconf) (acks : Acks) (next : ℕ) → Sealed r [] acks → IsLooked r → Ready r → NextGood (proposes r acks next).to
  proposes_good r acks next s w x = (own_good r acks s w (x acks s w), (λ b g. absurd g))

  -- what a reconfiguration knows of its seals doesn't hang on its work
  sealed_still : (r : Reconf) (w : ReconfWork) (ws : Waits) (acks : Acks) → Sealed r ws acks → Sealed (record r { work = w }) ws acks
  sealed_still r w ws acks s = record { early = record { known = s.early.known; allowed = s.early.allowed; lawful = s.early.lawful }; ok = s.ok; cover = s.cover; waited = s.waited; acked = s.acked }

  early_still : (r : Reconf) (w : ReconfWork) → Early r → Early (record r { work = w })
  early_still r w e = record { known = e.known; allowed = e.allowed; lawful = e.lawful }

  -- a wait that is left was there before
  left_waits : (n : ℕ) (ws : Waits) (x : ℕ × ℕ) → Has (without_wait n ws) x → Has ws x
  left_waits n ws x h = has_filter (λ (w : ℕ × ℕ). not (w.0 == n)) ws x h

  sealed_more : (r : Reconf) (w : ReconfWork) (u e h : ℕ) (ws vs : Waits) (acks : Acks) → (e == next_epoch r) ≡ true → without_wait u ws ≡ vs → Seals ps u e h × (h < 2 ^ 62) × Among ws u → Sealed r ws acks → Sealed (record r { work = w }) vs ((u, h) ∷ acks)
  sealed_more r w u e h ws vs acks i left s y = subst (λ (zs : Waits). Sealed (record r { work = w }) zs ((u, h) ∷ acks)) left (sealed_still r w (without_wait u ws) ((u, h) ∷ acks) (record {
    early = y.early;
    ok = acks_more (next_epoch r) acks u h (subst (λ (f : ℕ). Seals ps u f h × (h < 2 ^ 62)) (same e (next_epoch r) i) (s.0, s.1)) y.ok;
    cover = covers_more _ ws acks u h y.cover;
    waited = λ v n g. y.waited v n (left_waits u ws (v, n) g);
    acked = within_more _ acks u h (y.waited u s.2.0 s.2.1) y.acked;
  }))
    where
      same : (x y : ℕ) → (x == y) ≡ true → x ≡ y
      same x y e = grind arith

  pub first_good : (r : Reconf) (next : ℕ) (j : Option Join) → Early r → NextGood (first_step r next j).to
  first_good r next None e = seals_good r next e
  first_good r next (Some j) e = early_still r (SealingSpare next) e

  -- The votes.

  greater_is : (a b : Before) → (greater a b ≡ a) ⊎ (greater a b ≡ b)
  greater_is a b = grind arith

  greatest_good : (hs : List Before) (own : Layout) → Good own → ((b : Ballot × Layout) → Has hs (Some b) → Good b.1) → Good (value_or (greatest hs) own)
  greatest_good hs own g f = by (greatest hs) (greatest_in hs)
    where
      greatest_more : (b : Before) (bs : List Before) (x : Before) → x ≡ greater b (greatest bs) → ((y : Ballot × Layout) → greatest bs ≡ Some y → Has bs (Some y)) → (y : Ballot × Layout) → x ≡ Some y → Has (b ∷ bs) (Some y)
      greatest_more b bs x e ih y i = which (greater_is b (greatest bs))
        where
          which : (greater b (greatest bs) ≡ b) ⊎ (greater b (greatest bs) ≡ greatest bs) → Has (b ∷ bs) (Some y)
          which (inl s) = inl (sym i ∙ (e ∙ s))
          which (inr s) = inr (ih y (sym s ∙ (sym e ∙ i)))

      greatest_in : (bs : List Before) (y : Ballot × Layout) → greatest bs ≡ Some y → Has bs (Some y)
      greatest_in [] y i = absurd (cc)
      greatest_in (b ∷ bs) y i = greatest_more b bs (greatest (b ∷ bs)) refl (λ z j. greatest_in bs z j) y i

      by : (o : Before) → ((y : Ballot × Layout) → o ≡ Some y → Has hs (Some y)) → Good (value_or o own)
      by None h = g
      by (Some y) h = f y (h y refl)

  -- what a reply promises
  abbrev pub Promises : Reply → Type 0
  Promises (replied.IsPromise e b (Some a)) = Good a.1
  Promises x = Unit {0}

  heard_more : (e : ℕ) (b : Ballot) (a : Before) (hs : List Before) → Promises (replied.IsPromise e b a) → ((x : Ballot × Layout) → Has hs (Some x) → Good x.1) → (x : Ballot × Layout) → Has (a ∷ hs) (Some x) → Good x.1
  heard_more e b None hs p f x (inl i) = absurd (cc)
  heard_more e b (Some a) hs p f x (inl i) = subst (λ (y : Ballot × Layout). Good y.1) (same a x (sym i)) p
    where
      same : (a x : Ballot × Layout) → Some a ≡ Some x → a ≡ x
      same a x e = cc
  heard_more e b a hs p f x (inr h) = f x h

  -- An awaited answer, and a newer layout.

  abbrev pub SealTold : Reconf → ReconfWork → ℕ → Reply → Type 0
  SealTold r (Sealing ws acks) n (replied.IsSealed e h) = (Seals ps n e h × (h < 2 ^ 62) × Among ws n) × (r.change.join ≡ None → Ready r)
  SealTold r (LookingAgain k acks) n replied.IsWhole = IsLooked r × Ready r
  SealTold r w n x = Unit {0}

  abbrev pub PromiseTold : ReconfWork → Reply → Type 0
  PromiseTold (Agreeing v) x = Promises x
  PromiseTold w x = Unit {0}

  spare_early : (r : Reconf) (w : ReconfWork) → reconfs.IsSpare w → WorkGood r w → Early r
  spare_early r _ (reconfs.OfSeal i) e = e
  spare_early r _ (reconfs.OfLook i) e = e

  module _ (n rid : ℕ) (x : Reply) (next : ℕ) where
    voting_good : (r : Reconf) (v u : Voting) → reconfs.IsVoting n rid x next r v u → Good v.own × StageGood v.stage → Good u.own × StageGood u.stage
    voting_good r v _ (reconfs.Present none) g = g
    voting_good r v _ (reconfs.IsBegun l is has answers) g = (g.0, λ y h. absurd h)

    promised : (r : Reconf) (v u : Voting) (ws : Waits) (hs : List Before) (e : ℕ) (b : Ballot) (a : Before) → reconfs.IsVoting n rid x next r v u → u.stage ≡ Preparing ws hs → x ≡ replied.IsPromise e b a → Good v.own × StageGood v.stage → Promises x
        → Good u.own × ((y : Ballot × Layout) → Has (a ∷ hs) (Some y) → Good y.1)
    promised r v u ws hs e b a of st is k p = let g = voting_good r v u of k in (g.0, heard_more e b a hs (subst Promises is p) (subst StageGood st g.1))

    fed_good : (r : Reconf) (t : ReconfTurn) → reconfs.Fed n rid x next r t → WorkGood r r.work → SealTold r r.work n x → PromiseTold r.work x → NextGood t.to
    fed_good _ _ (reconfs.Nothing r) k s p = k
    fed_good _ _ (reconfs.LooksSpare r i e h is same) k s p = early_still (at_work r (SealingSpare i)) (LookingSpare next) k
    fed_good _ _ (reconfs.SpareWhole r i is) k s p = seals_good (at_work r (LookingSpare i)) next k
    fed_good _ _ (reconfs.SpareFenced r w e of is past) k s p = seals_good (at_work r w) next (spare_early (at_work r w) w of k)
    fed_good _ _ (reconfs.SealsMore r ws acks e h w vs is same left) k s p =
        sealed_more (at_work r (Sealing ws acks)) (Sealing (w ∷ vs) ((n, h) ∷ acks)) n e h ws (w ∷ vs) acks same left (subst (SealTold (at_work r (Sealing ws acks)) (Sealing ws acks) n) is s).0 k
    fed_good _ _ (reconfs.SealsLast r ws acks e h is same left none) k s p =
        let t = subst (SealTold (at_work r (Sealing ws acks)) (Sealing ws acks) n) is s in
        proposes_good (at_work r (Sealing ws acks)) ((n, h) ∷ acks) next (sealed_more (at_work r (Sealing ws acks)) (Sealing ws acks) n e h ws [] acks same left t.0 k) (λ j has. absurd (no j (sym none ∙ has))) (t.1 none)
      where
        no : (j : Join) → None ≡ Some j → ⊥
        no j e = cc
    fed_good _ _ (reconfs.LooksAgain r ws acks e h j is same left has) k s p =
        sealed_more (at_work r (Sealing ws acks)) (LookingAgain next ((n, h) ∷ acks)) n e h ws [] acks same left (subst (SealTold (at_work r (Sealing ws acks)) (Sealing ws acks) n) is s).0 k
    fed_good _ _ (reconfs.AgainWhole r i acks is) k s p = let t = subst (SealTold (at_work r (LookingAgain i acks)) (LookingAgain i acks) n) is s in proposes_good (at_work r (LookingAgain i acks)) acks next k t.0 t.1
    fed_good _ _ (reconfs.NextFenced r w e of is past) k s p = k
    fed_good _ _ (reconfs.Promises r v u ws hs e b a of st is same few) k s p = promised r v u ws hs e b a of st is k p
    fed_good _ _ (reconfs.PromisesMost r v u ws hs e b a of st is same most) k s p = let g = promised r v u ws hs e b a of st is k p in (g.0, greatest_good (a ∷ hs) u.own g.0 g.1)
    fed_good _ _ (reconfs.Accepts r v u ws i q e b of st is same few) k s p = let g = voting_good r v u of k in (g.0, subst StageGood st g.1)
    fed_good _ _ (reconfs.Nacks r v u e b of is same higher) k s p = voting_good r v u of k
    fed_good _ _ (reconfs.NacksLow r v u e b of is same low) k s p = voting_good r v u of k
    fed_good _ _ came k s p = tt

    pub feed_good : (r : Reconf) → WorkGood r r.work → SealTold r r.work n x → PromiseTold r.work x → NextGood (reconf_feed r r.work n rid x next).to
    feed_good r k s p = fed_good r _ (reconfs.reconf_fed n rid x next r) k s p

  heard_good : (n rid : ℕ) (q : Layout) (next : ℕ) (r : Reconf) (t : ReconfTurn) → reconfs.Heard n rid q next r t → NextGood t.to
  heard_good n rid q next _ _ (reconfs.StartedBefore r i) = tt
  heard_good n rid q next _ _ came = tt

  pub latest_good : (n rid : ℕ) (q : Layout) (next : ℕ) (r : Reconf) → NextGood (reconf_latest r r.work n rid q next).to
  latest_good n rid q next r = heard_good n rid q next r _ (reconfs.reconf_heard n rid q next r)

-- A client's step.

module _ (m : Meaning) (ps : List Packet) (K : Layout → Type 0) (X : Layout → Type 0) where
  abbrev pub ReconfGood : Option Reconf → Type 0
  ReconfGood None = Unit {0}
  ReconfGood (Some r) = WorkGood ps K X r r.work

  pub record MovedGood (x : Moved m) : Type 0 where
    pub hand : ReconfGood (reconf_of m x.now.work)

  calm_good : (x : Moved m) → WorkCalm m x.now.work → MovedGood x
  calm_good x c = record { hand = subst ReconfGood (sym (calm_none m 0 0 ps x.now.work c)) tt }

  plain_good : (c : Client m) (x : Moved m) → Plain m c x → MovedGood x
  plain_good c x f = calm_good x f.calm

  turn_good : (c : Client m) (w : Work m) (t : ReconfTurn) → NextGood ps K X t.to → MovedGood (on_reconf m c w t)
  turn_good c w t h = by t.to h
    where
      by : (to : Next Reconf ReconfEnd) → NextGood ps K X to → MovedGood (reconf_to m (after_turn m c t) w to)
      by (Goes s) h = record { hand = h }
      by (Learns s) h = record { hand = h }
      by (Ends (Installed e p)) h = record { hand = tt }
      by (Ends (Overtaken e p)) h = record { hand = tt }
      by (Ends (NotWhole u i p)) h = record { hand = tt }

  -- what an awaited answer tells a reconfiguration
  abbrev pub HearsSeal : Option Reconf → ℕ → Reply → Type 0
  HearsSeal None n x = Unit {0}
  HearsSeal (Some r) n x = SealTold ps K X r r.work n x × PromiseTold ps K X r.work x

  module _ (x : Packet) where
    task_good : (c : Client m) (w : Work m) (t : Task m) → ReconfGood (task_reconf m t) → HearsSeal (task_reconf m t) x.from.num (reply x.msg) → Fed m MovedGood c w t x.from.num x.rid (reply x.msg)
    task_good c w (Reconfiguring r) h s = turn_good c w (reconf_feed r r.work x.from.num x.rid (reply x.msg) c.next) (feed_good ps K X x.from.num x.rid (reply x.msg) c.next r h s.0 s.1)
    task_good c w t h s = plain_good c

    again_good : (c : Client m) (w : Work m) (t : Task m) (q : Layout) → ReconfGood (task_reconf m t) → Heard m MovedGood c w t x.from.num x.rid q
    again_good c w (Reconfiguring r) q h = turn_good c w (reconf_latest r r.work x.from.num x.rid q c.next) (latest_good ps K X x.from.num x.rid q c.next r)
    again_good c w t q h = plain_good (stands m c q)

    pub delivered_good : (c : Client m) (o : Option (Work m)) → c.work ≡ o → ReconfGood (reconf_of m c.work) → ((w : Work m) (t : Task m) → o ≡ Some w → w.hand ≡ Doing t → awaits (task_awaited m c.stand t) x.from x.rid ≡ true → HearsSeal (task_reconf m t) x.from.num (reply x.msg))
        → MovedGood (step.feed m c o x.from x.rid (reply x.msg))
    delivered_good c o e k s = subst (λ (u : Option (Work m)). MovedGood (step.feed m c u x.from x.rid (reply x.msg))) e (delivered_plain m MovedGood c x.from x.rid (reply x.msg) (record { hand = k })
        (λ w t has doing a. task_good c w t (subst (λ (d : Hand m). ReconfGood (task_reconf m (task_in m d))) doing (held w has)) (s w t (sym e ∙ has) doing a))
        (λ w q has is a. again_good c w (task_in m w.hand) q (held w has)))
      where
        held : (w : Work m) → c.work ≡ Some w → ReconfGood (task_reconf m (task_in m w.hand))
        held w has = subst (λ (o : Option (Work m)). ReconfGood (reconf_of m o)) has k

  -- Commands.

  accepts_good : (c : Client m) (x : CommandOf m) → c.work ≡ None → K c.stand → ((y : Changed) → x ≡ cmd.Reconf y → (change_fault c.stand y ≡ None) × IsChange y) → MovedGood (accepts m c x)
  unfolding accepts reconf_start
  accepts_good c (cmd.Reconf x) e k f = turn_good c (new_work m (cmd.Reconf x)) (reconf_start c.stand c.layouts x c.num c.next) (first_good ps K X (record { change = x; me = c.num; layouts = c.layouts; stand = c.stand; work = SealingSpare 0 }) c.next x.join (record { known = k; allowed = (f x refl).0; lawful = (f x refl).1 }))
  accepts_good c x e k f = plain_good c _ (accepts_plain m c x tt e)

  pub commanded_good : (c : Client m) (x : CommandOf m) (o : Option Refusal) → (o ≡ None → c.work ≡ None) → (o ≡ None → (y : Changed) → x ≡ cmd.Reconf y → (change_fault c.stand y ≡ None) × IsChange y) → K c.stand → ReconfGood (reconf_of m c.work) → MovedGood (refused_or m c x o)
  commanded_good c x None free f n k = accepts_good c x (free refl) n (f refl)
  commanded_good c x (Some why) free f n k = record { hand = k }
