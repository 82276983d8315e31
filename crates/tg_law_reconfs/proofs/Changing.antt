-- Through each of a client's turns: its reconfiguration is of the command's change, which its layout allowed where the command was
-- taken, at the epoch that was noted then, or past its adopted layout at the next one. A hand that learns was told of a later epoch.
use Rattle.std.proofs.Common.{◌≡◌, ◌≢◌, ◌⊎◌, ℕ, ◌+◌, ◌<◌, ◌≤◌, List, [], ◌∷◌, ◌++◌, length, true, refl, sym, ap, ◌∙◌, subst, inl, inr, arith, Some, None, Option}
use Rattle.std.specs.Prelude.{◌==◌, nat_lt}
use Rattle.tg_base.specs.Layouts.{Layout, IsLayout}
use Rattle.tg_base.specs.Changes.{Changed}
use Rattle.tg_base.specs.declared.change.Join.{Join}
use Rattle.tg_base.specs.declared.msg.Msg.{Msg}
use Rattle.tg_base.specs.declared.msg.Msg.TheVariants as msg
use Rattle.tg_base.specs.declared.packet.Out.{Out}
use Rattle.tg_base.specs.declared.packet.Packet.{Packet}
use Rattle.tg_kind.specs.Meaning.{Meaning}
use Rattle.tg_model.specs.Kinds.{CommandOf}
use Rattle.tg_model.specs.declared.refusal.Refusal.{Refusal}
use Rattle.tg_model.specs.declared.command.Command.TheVariants as cmd
use Rattle.tg_protocol.specs.Words.{unit_id, seqr_id}
use Rattle.tg_protocol.specs.Layouts.{next_units, change_fault}
use Rattle.tg_protocol.specs.Requests.{out, Waits, waits_for, asked_of, awaits, Next, Goes, Learns, Ends}
use Rattle.tg_protocol.specs.Replies.{Reply, IsSealed, IsFenced, IsOldEpoch, reply}
use Rattle.tg_protocol.specs.Trimming.{has_stripe}
use Rattle.tg_protocol.specs.Reconfiguring.{ReconfWork, SealingSpare, LookingSpare, Sealing, LookingAgain, Agreeing, Telling, Starting, Reconf, ReconfEnd, Installed, Overtaken, NotWhole, ReconfTurn, at_work, next_epoch, join_asks, reconf_work_asks, later_asks, first_step, reconf_start, reconf_feed, reconf_latest}
use Rattle.tg_protocol.specs.Clients.{Task, Syncing, Walking, Appending, Trimming, Copying', Reconfiguring, Hand, Doing, Learning, Work, Client, tests, refusal}
use Rattle.tg_protocol.specs.Answers.{Moved}
use Rattle.tg_protocol.specs.ClientSteps.{ClientTurn, task_in, task_awaited, stands, accepts, new_work, refused_or, reconf_to, on_reconf, after_turn, client_command, client_deliver, client_tick}
use Rattle.tg_protocol.specs.ClientSteps as step
use Rattle.tg_law_layouts.proofs.Layouts.Pax.{task_reconf, reconf_of}
use Rattle.tg_law_layouts.proofs.Layouts.Phases.{told_epoch, IsTold}
use Rattle.tg_law_layouts.proofs.Layouts.Plain.{WorkCalm, TaskCalm, Fed, Heard, accepts_plain, delivered_plain}
use Rattle.tg_law_layouts.proofs.Moves.Members.{Has, has_either}
use Rattle.tg_law_layouts.proofs.Moves.Turns.{not_busy}
use Rattle.tg_law_layouts.proofs.Requests.Told.{Seals}
use Rattle.tg_law_steps.proofs.Machines.Reconfs as turns
use Rattle.tg_law_reconfs.proofs.Answering.{awaited_one}
use Rattle.tg_law_reconfs.proofs.NextUnits.{next_some}
use Rattle.tg_law_reconfs.proofs.Waits.{has_asked, without_long}

same_num : (a b : ℕ) → (a == b) ≡ true → a ≡ b
same_num a b e = grind arith

less_of : (a b : ℕ) → nat_lt a b ≡ true → a < b
less_of a b e = grind arith

sealed_is : (y : Msg) (e h : ℕ) → reply y ≡ IsSealed e h → y ≡ msg.Sealed e h
unfolding reply
sealed_is y e h is = grind arith

fenced_is : (y : Msg) (e : ℕ) → reply y ≡ IsFenced e → y ≡ msg.Fenced e
unfolding reply
fenced_is y e is = grind arith

old_is : (y : Msg) (e : ℕ) → reply y ≡ IsOldEpoch e → y ≡ msg.OldEpoch e
unfolding reply
old_is y e is = grind arith

none_left : (w : ℕ × ℕ) (ws : Waits) → (w ∷ ws) ≡ [] → ⊥
none_left w ws e = cc

waits_long : (us : List ℕ) (next : ℕ) → length (waits_for us next) ≡ length us
waits_long [] next = refl
waits_long (u ∷ us) next = let more = waits_long us (next + 1) in omega (arith, more)

waits_some : (us : List ℕ) (next u : ℕ) → Has us u → waits_for us next ≢ []
waits_some [] next u h = absurd h
waits_some (v ∷ us) next u h = none_left (v, next) (waits_for us (next + 1))

-- Of a client, among the packets of a later world; n is the epoch that was noted where its command was given.
module _ (es : List Packet) (n : ℕ) where
  -- a unit told a fence, and a sequencer a later epoch
  pub record ToldFence (e : ℕ) : Type 0 where
    pub unit : ℕ
    pub packet : Packet
    pub sent : Has es packet
    pub from : packet.from ≡ unit_id unit
    pub is : packet.msg ≡ msg.Fenced e

  pub record ToldOld (e : ℕ) : Type 0 where
    pub seqr : ℕ
    pub packet : Packet
    pub sent : Has es packet
    pub from : packet.from ≡ seqr_id seqr
    pub is : packet.msg ≡ msg.OldEpoch e

  -- where it stands
  abbrev pub epoch_at : ReconfWork → ℕ
  epoch_at (Starting i) = n + 1
  epoch_at w = n

  -- until it has adopted its layout the change is one that may be made
  abbrev pub Fine : Reconf → ReconfWork → Type 0
  Fine r (Starting i) = Unit {0}
  Fine r w = change_fault r.stand r.change ≡ None

  -- a unit joins
  abbrev pub Joining : Reconf → Type 0
  Joining r = (j : Join) × (r.change.join ≡ Some j)

  -- and has been sealed at the present epoch before it is looked at; units that are sealed are those of the next layout
  abbrev pub Waiting : Reconf → ReconfWork → Type 0
  Waiting r (SealingSpare i) = Joining r
  Waiting r (LookingSpare i) = (j : Join) × (r.change.join ≡ Some j) × ((h : ℕ) × Seals es j.unit r.stand.epoch h)
  Waiting r (Sealing ws acks) = (ws ≢ []) × (length ws ≤ length (next_units r.stand r.change))
  Waiting r (LookingAgain i acks) = Joining r
  Waiting r w = Unit {0}

  pub record ReconfKept (r : Reconf) : Type 0 where
    pub epoch : r.stand.epoch ≡ epoch_at r.work
    pub fine : Fine r r.work
    pub waiting : Waiting r r.work

  -- it waits for a layout past its next one, or past its own where that is adopted
  abbrev pub Warned : Reconf → ReconfWork → Type 0
  Warned r (Starting i) = (e : ℕ) × (r.stand.epoch < e) × ToldOld e
  Warned r w = (e : ℕ) × (r.stand.epoch + 1 < e) × ToldFence e

  -- what an awaited answer tells
  abbrev pub HearsOf : Reconf → ReconfWork → Reply → Type 0
  HearsOf r (SealingSpare i) x = (e h : ℕ) → x ≡ IsSealed e h → (j : Join) → r.change.join ≡ Some j → Seals es j.unit e h
  HearsOf r (Sealing ws acks) x = (e : ℕ) → x ≡ IsFenced e → ToldFence e
  HearsOf r (LookingAgain i acks) x = (e : ℕ) → x ≡ IsFenced e → ToldFence e
  HearsOf r (Starting i) x = (e : ℕ) → x ≡ IsOldEpoch e → ToldOld e
  HearsOf r w x = Unit {0}

  abbrev pub NextKept : Changed → Next Reconf ReconfEnd → Type 0
  NextKept c (Goes r) = (r.change ≡ c) × ReconfKept r
  NextKept c (Learns r) = (r.change ≡ c) × ReconfKept r × Warned r r.work
  NextKept c (Ends e) = Unit {0}

  -- the seals begin
  seals_kept : (r : Reconf) (next : ℕ) → r.stand.epoch ≡ n → change_fault r.stand r.change ≡ None → IsLayout r.stand → ReconfKept (at_work r (Sealing (waits_for (next_units r.stand r.change) next) []))
  seals_kept r next at fine rules =
      let u = next_some r.stand r.change fine rules in
      let long = waits_long (next_units r.stand r.change) next in
      record { epoch = at; fine = fine; waiting = (waits_some (next_units r.stand r.change) next u.0 u.1, omega (arith, long)) }

  spare_at : (r : Reconf) (w : ReconfWork) → turns.IsSpare w → ReconfKept (at_work r w) → (r.stand.epoch ≡ n) × (change_fault r.stand r.change ≡ None)
  spare_at r _ (turns.OfSeal i) h = (h.epoch, h.fine)
  spare_at r _ (turns.OfLook i) h = (h.epoch, h.fine)

  early_at : (r : Reconf) (w : ReconfWork) → turns.IsEarly w → ReconfKept (at_work r w) → (r.stand.epoch ≡ n) × (change_fault r.stand r.change ≡ None)
  early_at r _ (turns.EarlySpare w of) h = spare_at r w of h
  early_at r _ (turns.EarlyNext _ (turns.OfSeals ws acks)) h = (h.epoch, h.fine)
  early_at r _ (turns.EarlyNext _ (turns.OfAgain i acks)) h = (h.epoch, h.fine)
  early_at r _ (turns.EarlyVote v) h = (h.epoch, h.fine)

  module _ (u rid : ℕ) (x : Reply) (next : ℕ) where
    next_warned : (r : Reconf) (w : ReconfWork) (e : ℕ) → turns.IsNext w → x ≡ IsFenced e → r.stand.epoch + 1 < e → HearsOf (at_work r w) w x → Warned (at_work r w) w
    next_warned r _ e (turns.OfSeals ws acks) is less hears = (e, less, hears e is)
    next_warned r _ e (turns.OfAgain i acks) is less hears = (e, less, hears e is)

    fed_kept : (r : Reconf) (t : ReconfTurn) → turns.Fed u rid x next r t → IsLayout r.stand → HearsOf r r.work x → ReconfKept r → NextKept r.change t.to
    fed_kept _ _ (turns.Nothing r) rules hears h = (refl, h)
    fed_kept _ _ (turns.LooksSpare r i e high is same) rules hears h =
        let j = h.waiting in
        (refl, record { epoch = h.epoch; fine = h.fine; waiting = (j.0, j.1, (high, subst (λ (f : ℕ). Seals es j.0.unit f high) (same_num e r.stand.epoch same) (hears e high is j.0 j.1))) })
    fed_kept _ _ (turns.SpareWhole r i is) rules hears h = (refl, seals_kept (at_work r (LookingSpare i)) next h.epoch h.fine rules)
    fed_kept _ _ (turns.SpareFenced r w e of is past) rules hears h = let a = spare_at r w of h in (refl, seals_kept (at_work r w) next a.0 a.1 rules)
    fed_kept _ _ (turns.SpareMisses r i pos is) rules hears h = tt
    fed_kept _ _ (turns.AgainMisses r i acks pos is) rules hears h = tt
    fed_kept _ _ (turns.Starts r i t ls is f) rules hears h = tt
    fed_kept _ _ (turns.SealsMore r ws acks e high w vs is same left) rules hears h =
        let less = subst (λ (zs : Waits). length zs ≤ length ws) left (without_long u ws) in
        let long = h.waiting.1 in
        (refl, record { epoch = h.epoch; fine = h.fine; waiting = (none_left w vs, omega (arith, less, long)) })
    fed_kept _ _ (turns.LooksAgain r ws acks e high j is same left has) rules hears h = (refl, record { epoch = h.epoch; fine = h.fine; waiting = (j, has) })
    fed_kept _ _ (turns.NextFenced r w e of is past) rules hears h = (refl, h, next_warned r w e of is (less_of (r.stand.epoch + 1) e past) hears)
    fed_kept _ _ (turns.StartsPast r i e is past) rules hears h = (refl, h, (e, less_of r.stand.epoch e past, hears e is))
    fed_kept _ _ y rules hears h = (refl, record { epoch = h.epoch; fine = h.fine; waiting = tt })

  heard_kept : (u rid : ℕ) (q : Layout) (next : ℕ) (r : Reconf) (t : ReconfTurn) → turns.Heard u rid q next r t → IsTold r → ReconfKept r → NextKept r.change t.to
  unfolding told_epoch
  heard_kept u rid q next _ _ (turns.StartedBefore r i) told h = tt
  heard_kept u rid q next _ _ (turns.HearsOne r ws i p e f) told h = (refl, record { epoch = h.epoch; fine = h.fine; waiting = tt })
  heard_kept u rid q next _ _ (turns.Adopts r ws i p e f g) told h = let at = h.epoch in (refl, record { epoch = omega (arith, told, at); fine = tt; waiting = tt })
  heard_kept u rid q next _ _ (turns.TellsOther r ws i p e f g) told h = tt
  heard_kept u rid q next _ _ (turns.TellsOwn r ws i p e) told h = (refl, h)
  heard_kept u rid q next _ _ (turns.OwnDecided r w of e) told h = let a = early_at r w of h in (refl, record { epoch = a.0; fine = a.1; waiting = tt })
  heard_kept u rid q next _ _ (turns.IsOvertaken r w of e) told h = tt

  -- What is awaited comes of a node that was asked.
  module _ (x : Packet) (sent : Has es x) where
    awaited_in : (xs ys : List Out) → ((o : Out) → Has ys o → ⊥) → awaits (xs ++ ys) x.from x.rid ≡ true → (y : Msg) × Has xs (out x.from x.rid y)
    awaited_in xs ys none a = let o = awaited_one (xs ++ ys) x.from x.rid a in (o.0, by (out x.from x.rid o.0) (has_either xs ys _ o.1))
      where
        by : (o : Out) → Has xs o ⊎ Has ys o → Has xs o
        by o (inl h) = h
        by o (inr h) = absurd (none o h)

    some_same : (i j : Join) → Some i ≡ Some j → i ≡ j
    some_same i j e = cc

    joins_from : (o : Option Join) (i : ℕ) (f : Join → Msg) (y : Msg) → Has (join_asks o (λ j. out (unit_id j.unit) i (f j) ∷ [])) (out x.from x.rid y) → (j : Join) → o ≡ Some j → x.from ≡ unit_id j.unit
    joins_from None i f y h j e = absurd h
    joins_from (Some k) i f y (inl is) j e = ap (λ (o : Out). o.to) is ∙ ap (λ (z : Join). unit_id z.unit) (some_same k j e)
    joins_from (Some k) i f y (inr h) j e = absurd h

    some_joins : (o : Option Join) (i : ℕ) (f : Join → Msg) (y : Msg) → Has (join_asks o (λ j. out (unit_id j.unit) i (f j) ∷ [])) (out x.from x.rid y) → (u : ℕ) × (x.from ≡ unit_id u)
    some_joins None i f y h = absurd h
    some_joins (Some k) i f y (inl is) = (k.unit, ap (λ (o : Out). o.to) is)
    some_joins (Some k) i f y (inr h) = absurd h

    learn_from : (s i : ℕ) (z y : Msg) → Has (out (seqr_id s) i z ∷ []) (out x.from x.rid y) → x.from ≡ seqr_id s
    learn_from s i z y (inl is) = ap (λ (o : Out). o.to) is
    learn_from s i z y (inr h) = absurd h

    hears_of : (r : Reconf) (w : ReconfWork) → awaits (reconf_work_asks r w ++ later_asks r w) x.from x.rid ≡ true → HearsOf r w (reply x.msg)
    unfolding reconf_work_asks
    hears_of r (SealingSpare i) a = λ e h is j join.
        let o = awaited_in (join_asks r.change.join (λ j. out (unit_id j.unit) i (msg.Seal r.stand.epoch) ∷ [])) [] (λ o g. g) a in
        record { answer = x; answered = sent; from_unit = joins_from r.change.join i (λ j. msg.Seal r.stand.epoch) o.0 o.1 j join; is = sealed_is x.msg e h is }
    hears_of r (Sealing ws acks) a = λ e is.
        let o = awaited_in (asked_of unit_id (msg.Seal (next_epoch r)) ws) [] (λ o g. g) a in
        let z = has_asked unit_id (msg.Seal (next_epoch r)) ws (out x.from x.rid o.0) o.1 in
        record { unit = z.num; packet = x; sent = sent; from = ap (λ (o : Out). o.to) z.is; is = fenced_is x.msg e is }
    hears_of r (LookingAgain i acks) a = λ e is.
        let o = awaited_in (join_asks r.change.join (λ j. out (unit_id j.unit) i (has_stripe (next_epoch r) r.stand j.range j.stripe) ∷ [])) [] (λ o g. g) a in
        let z = some_joins r.change.join i (λ j. has_stripe (next_epoch r) r.stand j.range j.stripe) o.0 o.1 in
        record { unit = z.0; packet = x; sent = sent; from = z.1; is = fenced_is x.msg e is }
    hears_of r (Starting i) a = λ e is.
        let o = awaited_in (out (seqr_id r.stand.seq) i (msg.Learn r.stand) ∷ []) [] (λ o g. g) a in
        record { seqr = r.stand.seq; packet = x; sent = sent; from = learn_from r.stand.seq i (msg.Learn r.stand) o.0 o.1; is = old_is x.msg e is }
    hears_of r (LookingSpare i) a = tt
    hears_of r (Agreeing v) a = tt
    hears_of r (Telling ws i q) a = tt

  -- A client.
  module _ (m : Meaning) where
    abbrev pub TaskKept : CommandOf m → Task m → Type 0
    TaskKept x (Reconfiguring r) = (x ≡ cmd.Reconf r.change) × ReconfKept r
    TaskKept x t = Unit {0}

    abbrev pub TaskWarned : Task m → Type 0
    TaskWarned (Reconfiguring r) = Warned r r.work
    TaskWarned t = Unit {0}

    abbrev pub HandWarned : Hand m → Type 0
    HandWarned (Doing t) = Unit {0}
    HandWarned (Learning ws t) = TaskWarned t

    abbrev pub WorkKept : Option (Work m) → Type 0
    WorkKept None = Unit {0}
    WorkKept (Some w) = TaskKept w.command (task_in m w.hand) × HandWarned w.hand

    abbrev Good : Moved m → Type 0
    Good x = WorkKept x.now.work

    calm_kept : (o : Option (Work m)) → WorkCalm m o → WorkKept o
    calm_kept None c = tt
    calm_kept (Some w) c = (kept (task_in m w.hand) c, warned w.hand c)
      where
        kept : (t : Task m) → TaskCalm m t → TaskKept w.command t
        kept (Reconfiguring r) c = absurd c
        kept (Syncing s) c = tt
        kept (Walking y os) c = tt
        kept (Appending a y) c = tt
        kept (Trimming t) c = tt
        kept (Copying' y) c = tt

        learns : (t : Task m) → TaskCalm m t → TaskWarned t
        learns (Reconfiguring r) c = absurd c
        learns (Syncing s) c = tt
        learns (Walking y os) c = tt
        learns (Appending a y) c = tt
        learns (Trimming t) c = tt
        learns (Copying' y) c = tt

        warned : (d : Hand m) → TaskCalm m (task_in m d) → HandWarned d
        warned (Doing t) c = tt
        warned (Learning ws t) c = learns t c

    turn_kept : (c : Client m) (w : Work m) (r : Reconf) (t : ReconfTurn) → w.command ≡ cmd.Reconf r.change → NextKept r.change t.to → Good (on_reconf m c w t)
    turn_kept c w r t of k = by t.to k
      where
        command : (s : Reconf) → s.change ≡ r.change → w.command ≡ cmd.Reconf s.change
        command s e = of ∙ ap (λ (z : Changed). cmd.Reconf z) (sym e)

        by : (to : Next Reconf ReconfEnd) → NextKept r.change to → Good (reconf_to m (after_turn m c t) w to)
        by (Goes s) k = ((command s k.0, k.1), tt)
        by (Learns s) k = ((command s k.0, k.1), k.2)
        by (Ends (Installed e p)) k = tt
        by (Ends (Overtaken e p)) k = tt
        by (Ends (NotWhole v i p)) k = tt

    -- the reconfiguration in hand is of a layout that keeps the rules, and tells one of the next epoch
    abbrev pub Suited : Client m → Type 0
    Suited c = (r : Reconf) → reconf_of m c.work ≡ Some r → IsLayout r.stand × IsTold r

    module _ (c : Client m) (k : WorkKept c.work) where
      -- A packet comes.
      module _ (suited : Suited c) (x : Packet) (sent : Has es x) where
        in_hand : (w : Work m) → c.work ≡ Some w → TaskKept w.command (task_in m w.hand)
        in_hand w has = (subst WorkKept has k).0

        hand_of : (w : Work m) (r : Reconf) → c.work ≡ Some w → task_in m w.hand ≡ Reconfiguring r → reconf_of m c.work ≡ Some r
        hand_of w r has is = ap (λ (o : Option (Work m)). reconf_of m o) has ∙ ap (λ (t : Task m). task_reconf m t) is

        task_fed : (w : Work m) (t : Task m) → c.work ≡ Some w → task_in m w.hand ≡ t → awaits (task_awaited m c.stand t) x.from x.rid ≡ true → Fed m Good c w t x.from.num x.rid (reply x.msg)
        task_fed w (Reconfiguring r) has is a =
            let h = subst (TaskKept w.command) is (in_hand w has) in
            turn_kept c w r (reconf_feed r r.work x.from.num x.rid (reply x.msg) c.next) h.0
            (fed_kept x.from.num x.rid (reply x.msg) c.next r _ (turns.reconf_fed x.from.num x.rid (reply x.msg) c.next r) (suited r (hand_of w r has is)).0 (hears_of x sent r r.work a) h.1)
        task_fed w (Syncing s) has is a = λ y p. calm_kept y.now.work p.calm
        task_fed w (Walking z os) has is a = λ y p. calm_kept y.now.work p.calm
        task_fed w (Appending z e) has is a = λ y p. calm_kept y.now.work p.calm
        task_fed w (Trimming t) has is a = λ y p. calm_kept y.now.work p.calm
        task_fed w (Copying' z) has is a = λ y p. calm_kept y.now.work p.calm

        task_heard : (w : Work m) (t : Task m) (q : Layout) → c.work ≡ Some w → task_in m w.hand ≡ t → Heard m Good c w t x.from.num x.rid q
        task_heard w (Reconfiguring r) q has is =
            let h = subst (TaskKept w.command) is (in_hand w has) in
            turn_kept c w r (reconf_latest r r.work x.from.num x.rid q c.next) h.0
            (heard_kept x.from.num x.rid q c.next r _ (turns.reconf_heard x.from.num x.rid q c.next r) (suited r (hand_of w r has is)).1 h.1)
        task_heard w (Syncing s) q has is = λ y p. calm_kept y.now.work p.calm
        task_heard w (Walking z os) q has is = λ y p. calm_kept y.now.work p.calm
        task_heard w (Appending z e) q has is = λ y p. calm_kept y.now.work p.calm
        task_heard w (Trimming t) q has is = λ y p. calm_kept y.now.work p.calm
        task_heard w (Copying' z) q has is = λ y p. calm_kept y.now.work p.calm

        pub hears_kept : WorkKept (client_deliver m c x.from x.rid x.msg).now.work
        unfolding client_deliver
        hears_kept = delivered_plain m Good c x.from x.rid (reply x.msg) k (λ w t has doing a. task_fed w t has (ap (λ (d : Hand m). task_in m d) doing) a) (λ w q has is a. task_heard w (task_in m w.hand) q has refl)

      -- A command: only a client without work takes it.
      module _ (at : c.work ≡ None → c.stand.epoch ≡ n) (rules : IsLayout c.stand) where
        first_kept : (r : Reconf) (next : ℕ) (o : Option Join) → r.stand.epoch ≡ n → change_fault r.stand r.change ≡ None → IsLayout r.stand → r.change.join ≡ o → NextKept r.change (first_step r next o).to
        first_kept r next None here fine lawful is = (refl, seals_kept r next here fine lawful)
        first_kept r next (Some j) here fine lawful is = (refl, record { epoch = here; fine = fine; waiting = (j, is) })

        accepts_kept : (x : CommandOf m) → c.work ≡ None → ((y : Changed) → x ≡ cmd.Reconf y → change_fault c.stand y ≡ None) → Good (accepts m c x)
        unfolding accepts reconf_start
        accepts_kept (cmd.Reconf y) free fine =
            let r : Reconf = record { change = y; me = c.num; layouts = c.layouts; stand = c.stand; work = SealingSpare 0 } in
            turn_kept c (new_work m (cmd.Reconf y)) r (reconf_start c.stand c.layouts y c.num c.next) refl (first_kept r c.next y.join (at free) (fine y refl) rules refl)
        accepts_kept x free fine = calm_kept (accepts m c x).now.work (accepts_plain m c x tt free).calm

        no_fault : (x : CommandOf m) → refusal m c x ≡ None → (y : Changed) → x ≡ cmd.Reconf y → change_fault c.stand y ≡ None
        unfolding refusal tests
        no_fault x i y e = grind arith

        refused_kept : (x : CommandOf m) (o : Option Refusal) → refusal m c x ≡ o → (o ≡ None → c.work ≡ None) → Good (refused_or m c x o)
        refused_kept x None is free = accepts_kept x (free refl) (no_fault x is)
        refused_kept x (Some why) is free = k

        pub commands_kept : (x : CommandOf m) → WorkKept (client_command m c x).now.work
        unfolding client_command
        commands_kept x = refused_kept x (refusal m c x) refl (not_busy m c x)

      tick_by_kept : (o : Option (Work m)) → c.work ≡ o → WorkKept (step.tick_by m c o).now.work
      tick_by_kept None e = k
      tick_by_kept (Some w) e = k

      pub ticks_kept : WorkKept (client_tick m c).now.work
      unfolding client_tick
      ticks_kept = tick_by_kept c.work refl
