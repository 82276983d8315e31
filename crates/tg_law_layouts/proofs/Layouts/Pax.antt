-- One layout for an epoch, over all worlds.
use Rattle.std.proofs.Common.{◌≡◌, ◌⊎◌, ℕ, ◌+◌, ◌<◌, ◌≤◌, List, [], ◌++◌, Bool, true, ◌&&◌, refl, sym, ap, ◌∙◌, subst, inl, inr, arith, Some, None, Option}
use Rattle.std.specs.Prelude.{nat_lt}
use Rattle.tg_base.specs.Layouts.{Layout}
use Rattle.tg_base.specs.Changes.{Changed}
use Rattle.tg_base.specs.declared.change.Join.{Join}
use Rattle.tg_base.specs.declared.ids.Ballot.{Ballot}
use Rattle.tg_base.specs.declared.ids.NodeId.{NodeId}
use Rattle.tg_base.specs.declared.msg.Msg.{Msg}
use Rattle.tg_base.specs.declared.msg.Msg.TheVariants as msg
use Rattle.tg_base.specs.declared.packet.Out.{Out}
use Rattle.tg_base.specs.declared.packet.Packet.{Packet}
use Rattle.tg_kind.specs.Meaning.{Meaning}
use Rattle.tg_model.specs.Kinds.{CommandOf, NoteOf}
use Rattle.tg_model.specs.declared.refusal.Refusal.{Refusal}
use Rattle.tg_model.specs.declared.command.Command.TheVariants as cmd
use Rattle.tg_protocol.specs.Words.{unit_id, layout_id, seqr_id, numbers}
use Rattle.tg_protocol.specs.Layouts.{next_of}
use Rattle.tg_protocol.specs.Requests.{Waits, waits_for, awaits, drawn_from, Next, Goes, Learns, Ends}
use Rattle.tg_protocol.specs.Replies.{reply}
use Rattle.tg_protocol.specs.Replies as replied
use Rattle.tg_protocol.specs.Reconfiguring.{Before, Stage, Preparing, Accepting, Later, ReconfWork, SealingSpare, LookingSpare, Sealing, LookingAgain, Agreeing, Telling, Starting, Reconf, ReconfEnd, Installed, Overtaken, NotWhole, ReconfTurn, next_epoch, stage_asks, reconf_work_asks, reconf_asks, set_asks, later_asks, reconf_awaited, first_step, reconf_start, reconf_feed, reconf_latest}
use Rattle.tg_protocol.specs.Trimming.{has_stripe}
use Rattle.tg_protocol.specs.Clients.{Task, Syncing, Walking, Appending, Trimming, Copying', Reconfiguring, Hand, Doing, Learning, Work, Client, refusal}
use Rattle.tg_protocol.specs.Answers.{Moved, moved}
use Rattle.tg_protocol.specs.ClientSteps.{task_asks, task_awaited, hand_asks, hand_again_asks, task_again_asks, client_asks, asks_latest, task_in, stands, accepts, new_work, refused_or, client_command, client_deliver, client_tick, reconf_ended, reconf_to, on_reconf, after_turn, ClientTurn, given}
use Rattle.tg_protocol.specs.ClientSteps as step
use Rattle.tg_law_layouts.proofs.Moves.Members.{Has, has_left, has_either, has_map, has_filter}
use Rattle.tg_law_layouts.proofs.Agreement.Facts.{Proposed, Promised, Truth}
use Rattle.tg_law_layouts.proofs.Agreement.Proposers.{Below, StageOk, VotingOk, Early, WorkOk, ReconfOk, NextOk, TurnOk, feed_ok, latest_ok, again_awaited}
use Rattle.tg_law_layouts.proofs.Layouts.Phases.{phase, told_epoch, IsTold, IsProposedNext, stage_epoch, end_stand, Follows, TurnFollows, latest_follows, feed_follows}
use Rattle.tg_law_layouts.proofs.Layouts.Plain.{learns_quiet, NoAccepts, accepts_plain, Fed, Heard, delivered_plain, none_plain, one_plain, all_plain, both_plain, task_plain, TaskCalm, WorkCalm, Plain}
use Rattle.tg_law_layouts.proofs.Moves.Turns.{not_busy}
use Rattle.tg_law_layouts.proofs.Moves.Reconfs.{join_plain}

-- What a reconfiguration awaits proposes for the next epoch alone.

asked_epoch : (name : ℕ → NodeId) (x : Msg) (ws : Waits) (f : ℕ) → ((e : ℕ) (b : Ballot) (q : Layout) → x ≡ msg.Accept e b q → e ≡ f) → (o : Out) (e : ℕ) (b : Ballot) (q : Layout)
    → Has (Rattle.tg_protocol.specs.Requests.asked_of name x ws) o → o.msg ≡ msg.Accept e b q → e ≡ f
asked_epoch name x ws f at o e b q h is = let i = has_map (λ (w : ℕ × ℕ). Rattle.tg_protocol.specs.Requests.out (name w.0) w.1 x) ws o h in at e b q (sym (ap (λ (y : Out). y.msg) i.is) ∙ is)

no_epoch : (os : List Out) (f : ℕ) → NoAccepts os → (o : Out) (e : ℕ) (b : Ballot) (q : Layout) → Has os o → o.msg ≡ msg.Accept e b q → e ≡ f
no_epoch os f n o e b q h is = absurd (n o e b q h is)

stage_of : (r : Reconf) (round : ℕ) (s : Stage) (o : Out) (e : ℕ) (b : Ballot) (q : Layout) → Has (stage_asks r round s) o → o.msg ≡ msg.Accept e b q → e ≡ next_epoch r
stage_of r round (Preparing ws hs) o e b q h is = asked_epoch layout_id _ ws (next_epoch r) (λ e b q i. absurd (cc)) o e b q h is
stage_of r round (Accepting ws n y) o e b q h is = asked_epoch layout_id _ ws (next_epoch r) (λ e b q i. cc) o e b q h is

set_of : (r : Reconf) (l : Option Later) → NoAccepts (set_asks r l)
set_of r None = none_plain
set_of r (Some l) = all_plain layout_id _ l.waits (λ e b q i. cc)

work_of : (r : Reconf) (w : ReconfWork) (o : Out) (e : ℕ) (b : Ballot) (q : Layout) → Has (reconf_work_asks r w ++ later_asks r w) o → o.msg ≡ msg.Accept e b q → e ≡ next_epoch r
unfolding reconf_work_asks
work_of r (Agreeing v) o e b q h is = by (has_either (stage_asks r v.round v.stage) (set_asks r v.later) o h)
  where
    by : Has (stage_asks r v.round v.stage) o ⊎ Has (set_asks r v.later) o → e ≡ next_epoch r
    by (inl x) = stage_of r v.round v.stage o e b q x is
    by (inr x) = absurd (set_of r v.later o e b q x is)
work_of r (SealingSpare n) o e b q h is = no_epoch _ _ (both_plain _ [] (join_plain NoAccepts r.change.join _ none_plain (λ j. one_plain _ n (msg.Seal r.stand.epoch) (λ e b q i. cc))) none_plain) o e b q h is
work_of r (LookingSpare n) o e b q h is = no_epoch _ _ (both_plain _ [] (join_plain NoAccepts r.change.join _ none_plain (λ j. one_plain _ n (has_stripe r.stand.epoch r.stand j.range j.stripe) (λ e b q i. cc))) none_plain) o e b q h is
work_of r (Sealing ws acks) o e b q h is = no_epoch _ _ (both_plain _ [] (all_plain unit_id (msg.Seal (next_epoch r)) ws (λ e b q i. cc)) none_plain) o e b q h is
work_of r (LookingAgain n acks) o e b q h is = no_epoch _ _ (both_plain _ [] (join_plain NoAccepts r.change.join _ none_plain (λ j. one_plain _ n (has_stripe (next_epoch r) r.stand j.range j.stripe) (λ e b q i. cc))) none_plain) o e b q h is
work_of r (Telling ws n y) o e b q h is = no_epoch _ _ (both_plain _ [] (all_plain layout_id (msg.Decided y) ws (λ e b q i. cc)) none_plain) o e b q h is
work_of r (Starting n) o e b q h is = absurd (one_plain (seqr_id r.stand.seq) n (msg.Learn r.stand) (λ e b q i. cc) o e b q h is)

pub awaited_of : (r : Reconf) (o : Out) (e : ℕ) (b : Ballot) (q : Layout) → Has (reconf_awaited r) o → o.msg ≡ msg.Accept e b q → e ≡ next_epoch r
awaited_of r o e b q h is = work_of r r.work o e b q h is

-- What a layout of the next epoch may be.

abbrev pub OfEpoch : ℕ → Layout → Type 0
OfEpoch e q = q.epoch ≡ e

next_epoch_of : (p : Layout) (c : Changed) (k start : ℕ) → OfEpoch (p.epoch + 1) (next_of p c k start)
unfolding next_of
next_epoch_of p c k start = refl

-- no proposal of a client is of an epoch above this one
abbrev pub Silent : List Packet → ℕ → ℕ → Type 0
Silent ps k e = (f : ℕ) (b : Ballot) (q : Layout) → e < f → Proposed f ps b q → b.client ≡ k → ⊥

silent_up : (ps : List Packet) (k e d : ℕ) → e ≤ d → Silent ps k e → Silent ps k d
silent_up ps k e d le s f b q less x mine = s f b q (omega (arith, le, less)) x mine

module _ (m : Meaning) where
  abbrev pub task_reconf : Task m → Option Reconf
  task_reconf (Reconfiguring r) = Some r
  task_reconf t = None

  abbrev pub reconf_of : Option (Work m) → Option Reconf
  reconf_of None = None
  reconf_of (Some w) = task_reconf (task_in m w.hand)

  module _ (n k : ℕ) (ps : List Packet) where
    pub record WorkerOk (p : Layout) (r : Reconf) : Type 0 where
      pub stand : r.stand ≡ p
      pub told : IsTold r
      pub ok : ReconfOk r.stand r.change n k (OfEpoch (r.stand.epoch + 1)) ps r
      pub above : Silent ps k (r.stand.epoch + 1)
      pub rests : (phase r.work ≡ 1 → ⊥) → Silent ps k r.stand.epoch

    abbrev pub HandOk : Layout → Option Reconf → Type 0
    HandOk p None = Silent ps k p.epoch
    HandOk p (Some r) = WorkerOk p r

    abbrev pub ClientOk : Client m → Type 0
    ClientOk c = HandOk c.stand (reconf_of c.work)

    -- A step.
    pub record MovedFine (c : Client m) (x : Moved m) : Type 0 where
      pub ok : ClientOk x.now
      pub quiet : NoAccepts x.besides
      pub num : x.now.num ≡ c.num
      pub layouts : x.now.layouts ≡ c.layouts

    pub calm_none : (w : Option (Work m)) → WorkCalm m w → reconf_of w ≡ None
    calm_none None h = refl
    calm_none (Some w) h = by (task_in m w.hand) h
      where
        by : (t : Task m) → TaskCalm m t → task_reconf t ≡ None
        by (Reconfiguring r) c = absurd c
        by (Syncing s) c = refl
        by (Walking k os) c = refl
        by (Appending a x) c = refl
        by (Trimming t) c = refl
        by (Copying' x) c = refl

    plain_fine : (c : Client m) (p : Layout) (x : Moved m) → Silent ps k p.epoch → Plain m (stands m c p) x → MovedFine c x
    plain_fine c p x s f = record {
      ok = subst (λ (o : Option Reconf). HandOk x.now.stand o) (sym (calm_none x.now.work f.calm)) (subst (λ (q : Layout). Silent ps k q.epoch) (sym f.stand) s);
      quiet = learns_quiet x.now.stand x.besides f.quiet;
      num = f.num;
      layouts = f.layouts;
    }

    -- a reconfiguration seen from where it stands now
    restand : (p : Layout) (c : Changed) (s : Reconf) → ((s.stand ≡ p) ⊎ (phase s.work ≡ 2)) → ReconfOk p c n k (OfEpoch (p.epoch + 1)) ps s → ReconfOk s.stand s.change n k (OfEpoch (s.stand.epoch + 1)) ps s
    restand p c s at o = record { me = o.me; layouts = o.layouts; work = by s.work o.work }
      where
        early : Early p c n k (OfEpoch (p.epoch + 1)) ps s → Early s.stand s.change n k (OfEpoch (s.stand.epoch + 1)) ps s
        early e = (refl, refl, subst (λ (q : Layout). Below (q.epoch + 1) n k (OfEpoch (q.epoch + 1)) ps 0) (sym e.0) e.2)

        by : (w : ReconfWork) → WorkOk p c n k (OfEpoch (p.epoch + 1)) ps s w → WorkOk s.stand s.change n k (OfEpoch (s.stand.epoch + 1)) ps s w
        by (Agreeing v) h = (refl, subst (λ (q : Layout). VotingOk (q.epoch + 1) n k (OfEpoch (q.epoch + 1)) ps v) (sym h.0) h.1)
        by (Telling ws i q) h = tt
        by (Starting i) h = tt
        by (SealingSpare i) h = early h
        by (LookingSpare i) h = early h
        by (Sealing ws acks) h = early h
        by (LookingAgain i acks) h = early h

    -- A turn of a reconfiguration.

    follows_fine : (p : Layout) (r s : Reconf) → WorkerOk p r → NextOk r.stand r.change n k (OfEpoch (r.stand.epoch + 1)) ps (Goes s) → Follows r s → WorkerOk s.stand s
    follows_fine p r s h o f = record {
      stand = refl;
      told = f.told;
      ok = restand r.stand r.change s (at f.stand) o;
      above = above f.stand;
      rests = rests f.stand;
    }
      where
        Stand : Type 0
        Stand = ((s.stand ≡ r.stand) × ((phase s.work ≡ 1) ⊎ (phase s.work ≡ phase r.work))) ⊎ ((r.stand.epoch < s.stand.epoch) × (phase s.work ≡ 2))

        at : Stand → (s.stand ≡ r.stand) ⊎ (phase s.work ≡ 2)
        at (inl x) = inl x.0
        at (inr x) = inr x.1

        above : Stand → Silent ps k (s.stand.epoch + 1)
        above (inl x) = subst (λ (q : Layout). Silent ps k (q.epoch + 1)) (sym x.0) h.above
        above (inr x) = silent_up ps k (r.stand.epoch + 1) (s.stand.epoch + 1) (let less = x.0 in omega (arith, less)) h.above

        rests : Stand → (phase s.work ≡ 1 → ⊥) → Silent ps k s.stand.epoch
        rests (inl x) not = subst (λ (q : Layout). Silent ps k q.epoch) (sym x.0) (h.rests (by x.1))
          where
            by : (phase s.work ≡ 1) ⊎ (phase s.work ≡ phase r.work) → phase r.work ≡ 1 → ⊥
            by (inl e) i = not e
            by (inr e) i = not (e ∙ i)
        rests (inr x) not = silent_up ps k (r.stand.epoch + 1) s.stand.epoch (let less = x.0 in omega (arith, less)) h.above

    ends_fine : (c : Client m) (r : Reconf) (e : ReconfEnd) → WorkerOk c.stand r → ((end_stand e ≡ r.stand) × (phase r.work ≡ 1 → ⊥)) ⊎ (r.stand.epoch < (end_stand e).epoch) → MovedFine c (reconf_ended m c e)
    ends_fine c r e h at = by e (silent at)
      where
        silent : ((end_stand e ≡ r.stand) × (phase r.work ≡ 1 → ⊥)) ⊎ (r.stand.epoch < (end_stand e).epoch) → Silent ps k (end_stand e).epoch
        silent (inl x) = subst (λ (q : Layout). Silent ps k q.epoch) (sym x.0) (h.rests x.1)
        silent (inr less) = silent_up ps k (r.stand.epoch + 1) (end_stand e).epoch (omega (arith, less)) h.above

        by : (e : ReconfEnd) → Silent ps k (end_stand e).epoch → MovedFine c (reconf_ended m c e)
        by (Installed f p) s = record { ok = s; quiet = none_plain; num = refl; layouts = refl }
        by (Overtaken f p) s = record { ok = s; quiet = none_plain; num = refl; layouts = refl }
        by (NotWhole u pos p) s = record { ok = s; quiet = none_plain; num = refl; layouts = refl }

    reconf_fine : (c : Client m) (w : Work m) (r : Reconf) (t : ReconfTurn) → WorkerOk c.stand r → TurnOk r.stand r.change n k (OfEpoch (r.stand.epoch + 1)) ps t → TurnFollows r t → MovedFine c (on_reconf m c w t)
    reconf_fine c w r t h o f = by t.to refl o
      where
        by : (to : Next Reconf ReconfEnd) → t.to ≡ to → NextOk r.stand r.change n k (OfEpoch (r.stand.epoch + 1)) ps to → MovedFine c (reconf_to m (after_turn m c t) w to)
        by (Goes s) e o = record { ok = follows_fine c.stand r s h o (f.goes s e); quiet = none_plain; num = refl; layouts = refl }
        by (Learns s) e o = record { ok = subst (λ (x : Reconf). WorkerOk c.stand x) (sym (f.learns s e)) h; quiet = none_plain; num = refl; layouts = refl }
        by (Ends x) e o = let z = ends_fine (after_turn m c t) r x h (f.ends x e) in record { ok = z.ok; quiet = z.quiet; num = z.num; layouts = z.layouts }

  -- What a packet tells, and the layouts that a client may propose.

  told_promise : (y : Msg) (e : ℕ) (b : Ballot) (a : Before) → reply y ≡ replied.IsPromise e b a → y ≡ msg.Promise e b a
  unfolding reply
  told_promise y e b a h = grind arith

  module _ (n k : ℕ) (ps : List Packet) (truth : (e : ℕ) → Truth e n (OfEpoch e) ps) (x : Packet) (sent : Has ps x) where
    promise_of : (e : ℕ) → x.from ≡ layout_id x.from.num → (b : Ballot) (a : Before) → reply x.msg ≡ replied.IsPromise e b a → Promised e ps x.from.num b a
    promise_of e from b a h = record { packet = x; sent = sent; from = from; is = told_promise x.msg e b a h }

    proposed_next : (r : Reconf) → ReconfOk r.stand r.change n k (OfEpoch (r.stand.epoch + 1)) ps r → IsProposedNext r
    proposed_next r o v is = by (subst (λ (w : ReconfWork). WorkOk r.stand r.change n k (OfEpoch (r.stand.epoch + 1)) ps r w) is o.work).1 v.stage refl
      where
        by : VotingOk (r.stand.epoch + 1) n k (OfEpoch (r.stand.epoch + 1)) ps v → (s : Stage) → v.stage ≡ s → stage_epoch s (r.stand.epoch + 1) ≡ r.stand.epoch + 1
        by h (Preparing ws hs) e = refl
        by h (Accepting ws i q) e = (subst (λ (s : Stage). StageOk (r.stand.epoch + 1) n k (OfEpoch (r.stand.epoch + 1)) ps v.round s) e h.stage).allowed

    fed_fine : (c : Client m) (w : Work m) (r : Reconf) → WorkerOk n k ps c.stand r → awaits (reconf_awaited r) x.from x.rid ≡ true
        → MovedFine n k ps c (on_reconf m c w (reconf_feed r r.work x.from.num x.rid (reply x.msg) c.next))
    fed_fine c w r h awaited = reconf_fine n k ps c w r (reconf_feed r r.work x.from.num x.rid (reply x.msg) c.next) h
        (feed_ok r.stand r.change n k (OfEpoch (r.stand.epoch + 1)) (next_epoch_of r.stand r.change k) ps (truth (r.stand.epoch + 1)) r x.from x.rid (reply x.msg) c.next h.ok awaited (λ from b a e. promise_of (r.stand.epoch + 1) from b a e))
        (feed_follows r x.from.num x.rid (reply x.msg) c.next h.told (proposed_next r h.ok))

    newer_fine : (c : Client m) (w : Work m) (r : Reconf) (q : Layout) → WorkerOk n k ps c.stand r → c.stand.epoch < q.epoch
        → MovedFine n k ps c (on_reconf m c w (reconf_latest r r.work x.from.num x.rid q c.next))
    newer_fine c w r q h less = reconf_fine n k ps c w r (reconf_latest r r.work x.from.num x.rid q c.next) h
        (latest_ok r.stand r.change n k (OfEpoch (r.stand.epoch + 1)) (next_epoch_of r.stand r.change k) ps (truth (r.stand.epoch + 1)) r x.from.num x.rid q c.next h.ok)
        (latest_follows r x.from.num x.rid q c.next h.told (subst (λ (p : Layout). p.epoch < q.epoch) (sym h.stand) less))

    rests_fine : (c : Client m) (ns : List (NoteOf m)) → ClientOk n k ps c → MovedFine n k ps c (moved m c ns)
    rests_fine c ns h = record { ok = h; quiet = none_plain; num = refl; layouts = refl }

    -- an awaited answer to a task
    task_fine : (c : Client m) (w : Work m) (t : Task m) → HandOk n k ps c.stand (task_reconf t) → awaits (task_awaited m c.stand t) x.from x.rid ≡ true → Fed m (MovedFine n k ps c) c w t x.from.num x.rid (reply x.msg)
    task_fine c w (Reconfiguring r) h a = fed_fine c w r h a
    task_fine c w t h a = λ y p. plain_fine n k ps c c.stand y h p

    -- a newer layout
    again_fine : (c : Client m) (w : Work m) (t : Task m) (q : Layout) → HandOk n k ps c.stand (task_reconf t) → c.stand.epoch < q.epoch → Heard m (MovedFine n k ps c) c w t x.from.num x.rid q
    again_fine c w (Reconfiguring r) q h less = newer_fine c w r q h less
    again_fine c w t q h less = λ y p. plain_fine n k ps c q y (silent_up ps k _ _ (omega (arith, less)) h) p

    -- Deliveries.

    hand_of : (c : Client m) (w : Work m) → c.work ≡ Some w → ClientOk n k ps c → HandOk n k ps c.stand (task_reconf (task_in m w.hand))
    hand_of c w e h = subst (λ (o : Option (Work m)). HandOk n k ps c.stand (reconf_of o)) e h

    and_less : (a : Bool) (d e : ℕ) → (a && nat_lt d e) ≡ true → d < e
    and_less a d e h = grind arith

    feed_fine : (c : Client m) → ClientOk n k ps c → MovedFine n k ps c (step.feed m c c.work x.from x.rid (reply x.msg))
    feed_fine c ok = delivered_plain m (MovedFine n k ps c) c x.from x.rid (reply x.msg) (rests_fine c [] ok)
        (λ w t has doing a. task_fine c w t (subst (λ (d : Hand m). HandOk n k ps c.stand (task_reconf (task_in m d))) doing (hand_of c w has ok)) a)
        (λ w q has is e. again_fine c w (task_in m w.hand) q (hand_of c w has ok) (and_less _ c.stand.epoch q.epoch e))

  -- Commands.

  module _ (n k : ℕ) (ps : List Packet) where
    begun_fine : (c : Client m) (w : Work m) (next : ℕ) (s : Reconf) → s.stand ≡ c.stand → phase s.work ≡ 0 → IsTold s → s.me ≡ k → s.layouts ≡ n → Silent ps k c.stand.epoch
        → WorkerOk n k ps c.stand s
    unfolding phase
    begun_fine c w next s stand first told me layouts silent = record {
      stand = stand;
      told = told;
      ok = record { me = me; layouts = layouts; work = by s.work first };
      above = silent_up ps k s.stand.epoch (s.stand.epoch + 1) (omega arith) quiet;
      rests = λ not. quiet;
    }
      where
        quiet : Silent ps k s.stand.epoch
        quiet = subst (λ (p : Layout). Silent ps k p.epoch) (sym stand) silent

        early : Early s.stand s.change n k (OfEpoch (s.stand.epoch + 1)) ps s
        early = (refl, refl, λ b q y mine. absurd (quiet (s.stand.epoch + 1) b q (omega arith) y mine))

        by : (w : ReconfWork) → phase w ≡ 0 → WorkOk s.stand s.change n k (OfEpoch (s.stand.epoch + 1)) ps s w
        by (Agreeing v) h = absurd (omega (arith, h))
        by (Telling ws i q) h = tt
        by (Starting i) h = tt
        by (SealingSpare i) h = early
        by (LookingSpare i) h = early
        by (Sealing ws acks) h = early
        by (LookingAgain i acks) h = early

    first_fine : (c : Client m) (w : Work m) (x : Changed) (j : Option Join) → c.num ≡ k → c.layouts ≡ n → Silent ps k c.stand.epoch
        → MovedFine n k ps c (on_reconf m c w (first_step (record { change = x; me = c.num; layouts = c.layouts; stand = c.stand; work = SealingSpare 0 }) c.next j))
    unfolding phase told_epoch
    first_fine c w x None num layouts silent = record { ok = begun_fine c w c.next _ refl refl refl num layouts silent; quiet = none_plain; num = refl; layouts = refl }
    first_fine c w x (Some j) num layouts silent = record { ok = begun_fine c w c.next _ refl refl refl num layouts silent; quiet = none_plain; num = refl; layouts = refl }

    start_fine : (c : Client m) (w : Work m) (x : Changed) → c.num ≡ k → c.layouts ≡ n → Silent ps k c.stand.epoch → MovedFine n k ps c (on_reconf m c w (reconf_start c.stand c.layouts x c.num c.next))
    unfolding reconf_start
    start_fine c w x num layouts silent = first_fine c w x x.join num layouts silent

    accepts_fine : (c : Client m) (x : CommandOf m) → c.work ≡ None → c.num ≡ k → c.layouts ≡ n → Silent ps k c.stand.epoch → MovedFine n k ps c (accepts m c x)
    unfolding accepts
    accepts_fine c (cmd.Reconf x) e num layouts h = start_fine c (new_work m (cmd.Reconf x)) x num layouts h
    accepts_fine c x e num layouts h = plain_fine n k ps c c.stand _ h (accepts_plain m c x tt e)

    refused_fine : (c : Client m) (x : CommandOf m) (o : Option Refusal) → (o ≡ None → c.work ≡ None) → c.num ≡ k → c.layouts ≡ n → ClientOk n k ps c → MovedFine n k ps c (refused_or m c x o)
    refused_fine c x None free num layouts ok = accepts_fine c x (free refl) num layouts (subst (λ (w : Option (Work m)). HandOk n k ps c.stand (reconf_of w)) (free refl) ok)
    refused_fine c x (Some why) free num layouts ok = record { ok = ok; quiet = none_plain; num = refl; layouts = refl }

    -- Steps.

    -- what is proposed is awaited by the reconfiguration in hand
    pub record Proposing (c : Client m) (o : Out) : Type 0 where
      pub reconf : Reconf
      pub hand : reconf_of c.work ≡ Some reconf
      pub has : Has (reconf_awaited reconf) o

    pub record TurnFine (c : Client m) (t : ClientTurn m) : Type 0 where
      pub ok : ClientOk n k ps t.now
      pub sends : (o : Out) (e : ℕ) (b : Ballot) (q : Layout) → Has t.sends o → o.msg ≡ msg.Accept e b q → Proposing t.now o
      pub num : t.now.num ≡ c.num
      pub layouts : t.now.layouts ≡ c.layouts

    task_proposes : (p : Layout) (t : Task m) (o : Out) (e : ℕ) (b : Ballot) (q : Layout) → Has (task_asks m p t) o → o.msg ≡ msg.Accept e b q → (r : Reconf) × (task_reconf t ≡ Some r) × Has (reconf_awaited r) o
    unfolding task_asks
    task_proposes p (Reconfiguring r) o e b q h is = (r, refl, has_left (reconf_asks r) _ o h)
    task_proposes p (Syncing s) o e b q h is = absurd (task_plain m p (Syncing s) tt o e b q h is)
    task_proposes p (Walking w os) o e b q h is = absurd (task_plain m p (Walking w os) tt o e b q h is)
    task_proposes p (Appending a x) o e b q h is = absurd (task_plain m p (Appending a x) tt o e b q h is)
    task_proposes p (Trimming t) o e b q h is = absurd (task_plain m p (Trimming t) tt o e b q h is)
    task_proposes p (Copying' x) o e b q h is = absurd (task_plain m p (Copying' x) tt o e b q h is)

    hand_proposes : (p : Layout) (d : Hand m) (o : Out) (e : ℕ) (b : Ballot) (q : Layout) → Has (hand_asks m p d) o → o.msg ≡ msg.Accept e b q → (r : Reconf) × (task_reconf (task_in m d) ≡ Some r) × Has (reconf_awaited r) o
    hand_proposes p (Doing t) o e b q h is = task_proposes p t o e b q h is
    hand_proposes p (Learning ws t) o e b q h is = absurd (all_plain layout_id msg.AskLatest ws (λ e b q i. cc) o e b q h is)

    work_proposes : (p : Layout) (w : Option (Work m)) (o : Out) (e : ℕ) (b : Ballot) (q : Layout) → Has (step.work_asks m p w) o → o.msg ≡ msg.Accept e b q → (r : Reconf) × (reconf_of w ≡ Some r) × Has (reconf_awaited r) o
    work_proposes p None o e b q h is = absurd h
    work_proposes p (Some w) o e b q h is = hand_proposes p w.hand o e b q h is

    asks_propose : (c : Client m) (o : Out) (e : ℕ) (b : Ballot) (q : Layout) → Has (client_asks m c) o → o.msg ≡ msg.Accept e b q → Proposing c o
    unfolding client_asks
    asks_propose c o e b q h is = let x = work_proposes c.stand c.work o e b q h is in record { reconf = x.0; hand = x.1; has = x.2 }

    given_fine : (c : Client m) (x : Moved m) → MovedFine n k ps c x → TurnFine c (given m c x)
    given_fine c x f = record { ok = f.ok; sends = λ o e b q h is. by o e b q is (has_either x.besides _ o h); num = f.num; layouts = f.layouts }
      where
        by : (o : Out) (e : ℕ) (b : Ballot) (q : Layout) → o.msg ≡ msg.Accept e b q → Has x.besides o ⊎ Has (drawn_from c.next (client_asks m x.now)) o → Proposing (step.called m x.now) o
        by o e b q is (inl h) = absurd (f.quiet o e b q h is)
        by o e b q is (inr h) = let p = asks_propose x.now o e b q (has_filter _ (client_asks m x.now) o h) is in record { reconf = p.reconf; hand = p.hand; has = p.has }

    pub command_fine : (c : Client m) (x : CommandOf m) → c.num ≡ k → c.layouts ≡ n → ClientOk n k ps c → TurnFine c (step.client_command m c x)
    unfolding client_command
    command_fine c x num layouts ok = given_fine c _ (refused_fine c x (refusal m c x) (not_busy m c x) num layouts ok)

    pub deliver_fine : ((e : ℕ) → Truth e n (OfEpoch e) ps) → (x : Packet) → Has ps x → (c : Client m) → ClientOk n k ps c → TurnFine c (step.client_deliver m c x.from x.rid x.msg)
    unfolding client_deliver
    deliver_fine truth x sent c ok = given_fine c _ (feed_fine n k ps truth x sent c ok)

    again_proposes : (p : Layout) (t : Task m) (o : Out) (e : ℕ) (b : Ballot) (q : Layout) → Has (task_again_asks m p t) o → o.msg ≡ msg.Accept e b q → (r : Reconf) × (task_reconf t ≡ Some r) × Has (reconf_awaited r) o
    again_proposes p (Reconfiguring r) o e b q h is = (r, refl, again_awaited r o h)
    again_proposes p (Syncing s) o e b q h is = task_proposes p (Syncing s) o e b q h is
    again_proposes p (Walking w os) o e b q h is = task_proposes p (Walking w os) o e b q h is
    again_proposes p (Appending a x) o e b q h is = task_proposes p (Appending a x) o e b q h is
    again_proposes p (Trimming t) o e b q h is = task_proposes p (Trimming t) o e b q h is
    again_proposes p (Copying' x) o e b q h is = task_proposes p (Copying' x) o e b q h is

    hand_again : (p : Layout) (d : Hand m) (o : Out) (e : ℕ) (b : Ballot) (q : Layout) → Has (hand_again_asks m p d) o → o.msg ≡ msg.Accept e b q → (r : Reconf) × (task_reconf (task_in m d) ≡ Some r) × Has (reconf_awaited r) o
    hand_again p (Doing t) o e b q h is = again_proposes p t o e b q h is
    hand_again p (Learning ws t) o e b q h is = absurd (all_plain layout_id msg.AskLatest ws (λ e b q i. cc) o e b q h is)

    tick_by_fine : (c : Client m) (w : Option (Work m)) → c.work ≡ w → ClientOk n k ps c → TurnFine c (step.tick_by m c w)
    tick_by_fine c None e ok = record { ok = ok; sends = λ o e b q h. absurd h; num = refl; layouts = refl }
    tick_by_fine c (Some w) is ok = record { ok = ok; sends = λ o e b q h i. by o e b q i (has_either (hand_again_asks m c.stand w.hand) _ o h); num = refl; layouts = refl }
      where
        latest : List Out
        latest = asks_latest m (waits_for (numbers c.layouts 0) c.next)

        by : (o : Out) (e : ℕ) (b : Ballot) (q : Layout) → o.msg ≡ msg.Accept e b q → Has (hand_again_asks m c.stand w.hand) o ⊎ Has latest o → Proposing (step.called m (record c { next = c.next + c.layouts })) o
        by o e b q i (inl h) = let x = hand_again c.stand w.hand o e b q h i in record { reconf = x.0; hand = subst (λ (y : Option (Work m)). reconf_of y ≡ Some x.0) (sym is) x.1; has = x.2 }
        by o e b q i (inr h) = absurd (all_plain layout_id msg.AskLatest _ (λ e b q i. cc) o e b q h i)

    pub tick_fine : (c : Client m) → ClientOk n k ps c → TurnFine c (step.client_tick m c)
    unfolding client_tick
    tick_fine c ok = tick_by_fine c c.work refl ok
