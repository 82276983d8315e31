-- Through each of a client's turns: a sync or walk of an `end` follows the append of its record, by a sync that is new where the append
-- ends in the turn.
use Rattle.std.proofs.Common.{◌≡◌, ◌⊎◌, ℕ, ◌≤◌, List, [], ◌∷◌, refl, sym, ◌∙◌, subst, inl, inr, arith, Option, Some, None}
use Rattle.std.specs.Prelude.{Contains}
use Rattle.tg_base.specs.declared.ids.NodeId.{NodeId}
use Rattle.tg_base.specs.declared.ids.Oid.{Oid}
use Rattle.tg_base.specs.declared.msg.Msg.{Msg}
use Rattle.tg_kind.specs.Meaning.{Meaning}
use Rattle.tg_model.specs.declared.command.Command.TheVariants as cmd
use Rattle.tg_model.specs.declared.refusal.Refusal.{Refusal}
use Rattle.tg_model.specs.Kinds.{CommandOf}
use Rattle.tg_protocol.specs.Words.{with_num}
use Rattle.tg_protocol.specs.Replies.{Reply, reply}
use Rattle.tg_protocol.specs.Appending.{Append, AppendEnd, At, append_start}
use Rattle.tg_protocol.specs.Syncing.{Checking, Sync, sync_start}
use Rattle.tg_protocol.specs.Clients.{Task, Syncing, Walking, Appending, Trimming, Copying', Reconfiguring, Hand, Doing, Learning, Work, Client, refusal}
use Rattle.tg_protocol.specs.Answers.{Moved, moved, appends, syncs}
use Rattle.tg_protocol.specs.ClientSteps.{task_in, owns, stands, feed, new_work, accepts, refused_or, client_command, client_deliver, client_tick, tick_by}
use Rattle.tg_protocol.specs.Holding.{append_of, append_by}
use Rattle.tg_law_layouts.proofs.Moves.Turns.{not_busy}
use Rattle.tg_law_replies.proofs.History.Members.{contained_has}
use Rattle.tg_law_replies.specs.Replies.Ended.{end_of, task_ends, again_ends, work_ends}
use Rattle.tg_law_walks.proofs.Walks.Positions.{nums_left}
use Rattle.tg_law_layouts.proofs.Moves.Ways.{way_up}
use Rattle.tg_law_replies.proofs.Replies.Ways.{end_fed, end_newer}
use Rattle.tg_law_steps.proofs.Places.{Place, Feeds, Newer, OnAppend, OnTrims, OnCopy, OnReconf, Walks}
use Rattle.tg_law_steps.proofs.Ways.{Way, FeedsSync, FeedsWalk, FeedsAppend, FeedsTrims, FeedsCopy, FeedsReconf, NewerSync, NewerWalk, NewerAppend, NewerTrims, NewerCopy, NewerReconf, AllWalked, HasPlayed}
use Rattle.tg_law_steps.proofs.Ends.{End, GoesOn, LearnsNewer, Syncs, SyncGoes, WalkGoes, WalkBegins, SyncLearns, WalkLearns, JudgedAt}
use Rattle.tg_law_steps.proofs.Takes.{IsWalked, WalksTrim, Taken, SaidAtOnce, SyncsFirst, said_work, taken}
use Rattle.tg_law_steps.proofs.Along.{delivered, over_walks}

owned : (own : List ℕ) (p : ℕ) → Contains (with_num p own) p
owned own p = contained_has (with_num p own) p (nums_left (p ∷ []) own p (inl refl))

module _ (m : Meaning) (K : ℕ → Type 0) where
  -- the record of an `end` is the client's own
  abbrev pub Keep : List ℕ → Work m → Type 0
  Keep own w = w.command ≡ cmd.End → Contains own w.at × K w.at

  abbrev pub LearnOk : List ℕ → Work m → Task m → Type 0
  LearnOk own w (Syncing s) = Keep own w
  LearnOk own w (Walking k os) = Keep own w
  LearnOk own w t = Unit {0}

  abbrev pub WorkKept : List ℕ → Option (Work m) → Type 0
  WorkKept own None = Unit {0}
  WorkKept own (Some w) = LearnOk own w (task_in m w.hand)

module _ (m : Meaning) (n0 : ℕ) (K E : ℕ → Type 0) where
  -- the append has just ended, and the sync asks by a new number
  pub record Fresh (own : List ℕ) (w : Work m) (s : Sync) : Type 0 where
    pub rid : ℕ
    pub checks : s.work ≡ Checking rid
    pub new : n0 ≤ rid
    pub mine : Contains own w.at
    pub ended : E w.at

  abbrev pub TaskOk : List ℕ → Work m → Task m → Type 0
  TaskOk own w (Syncing s) = Keep m K own w ⊎ Fresh own w s
  TaskOk own w (Walking k os) = Keep m K own w
  TaskOk own w t = Unit {0}

  abbrev pub HandOk : List ℕ → Work m → Hand m → Type 0
  HandOk own w (Doing t) = TaskOk own w t
  HandOk own w (Learning ws t) = LearnOk m K own w t

  abbrev pub WorkOk : List ℕ → Option (Work m) → Type 0
  WorkOk own None = Unit {0}
  WorkOk own (Some w) = HandOk own w w.hand

  abbrev So : Moved m → Type 0
  So x = WorkOk x.now.own x.now.work

  -- what was kept is
  stays_task : (own : List ℕ) (w : Work m) (t : Task m) → LearnOk m K own w t → TaskOk own w t
  stays_task own w (Syncing s) k = inl k
  stays_task own w (Walking j os) k = k
  stays_task own w (Appending a y) k = tt
  stays_task own w (Trimming t) k = tt
  stays_task own w (Copying' y) k = tt
  stays_task own w (Reconfiguring r) k = tt

  stays_hand : (own : List ℕ) (w : Work m) (d : Hand m) → LearnOk m K own w (task_in m d) → HandOk own w d
  stays_hand own w (Doing t) k = stays_task own w t k
  stays_hand own w (Learning ws t) k = k

  stays_work : (own : List ℕ) (o : Option (Work m)) → WorkKept m K own o → WorkOk own o
  stays_work own None k = tt
  stays_work own (Some w) k = stays_hand own w w.hand k

  idle : (x : Moved m) → x.now.work ≡ None → So x
  idle x e = subst (WorkOk x.now.own) (sym e) tt

  synced' : (c : Client m) (w : Work m) (os : List Oid) → Keep m K c.own w → So (syncs m c w os)
  unfolding syncs sync_start
  synced' c w os h = inl h

  begins' : (c : Client m) (w : Work m) (os : List Oid) → n0 ≤ c.next → Contains c.own w.at → E w.at → So (syncs m c w os)
  unfolding syncs sync_start
  begins' c w os le i ended = inr (record { rid = c.next; checks = refl; new = le; mine = i; ended = ended })

  abbrev pub EndOk' : AppendEnd → Type 0
  EndOk' (At p page) = E p
  EndOk' e = Unit {0}

  abbrev pub Lands : Option Append → Option AppendEnd → Type 0
  Lands o end = (a : Append) (e : AppendEnd) → o ≡ Some a → end ≡ Some e → EndOk' e

  abbrev LandsTask : Task m → Option AppendEnd → Type 0
  LandsTask t end = Lands (append_of m t) end

  -- Along a turn.

  abbrev Here : Client m → Work m → Place m → Type 0
  Here c w (Feeds t n rid x) = LearnOk m K c.own w t × LandsTask t (task_ends m c t n x)
  Here c w (Newer t n rid q) = LearnOk m K c.own w t × LandsTask t (again_ends m (stands m c q) t)
  Here c w (OnAppend y bs to) = (e : AppendEnd) → end_of to ≡ Some e → EndOk' e
  Here c w (OnTrims b to) = Unit {0}
  Here c w (OnCopy x to) = Unit {0}
  Here c w (OnReconf to) = Unit {0}
  Here c w p = Keep m K c.own w

  abbrev At' : Client m → Work m → Place m → Type 0
  At' c w p = (n0 ≤ c.next) × Here c w p

  here_way : (c : Client m) (w : Work m) (p : Place m) (d : Client m) (v : Work m) (q : Place m) → Way m c w p d v q → Here c w p → Here d v q
  here_way c w _ _ _ _ (FeedsSync s n rid x) h = h.0
  here_way c w _ _ _ _ (FeedsWalk k os n rid x) h = h.0
  here_way c w _ _ _ _ (FeedsAppend a y n rid x) h = λ e is. h.1 a e refl is
  here_way c w _ _ _ _ (FeedsTrims t n rid x) h = tt
  here_way c w _ _ _ _ (FeedsCopy y n rid x) h = tt
  here_way c w _ _ _ _ (FeedsReconf r n rid x) h = tt
  here_way c w _ _ _ _ (NewerSync s n rid q) h = h.0
  here_way c w _ _ _ _ (NewerWalk k os n rid q) h = h.0
  here_way c w _ _ _ _ (NewerAppend a y n rid q) h = λ e is. h.1 a e refl is
  here_way c w _ _ _ _ (NewerTrims t n rid q) h = tt
  here_way c w _ _ _ _ (NewerCopy x n rid q fine) h = tt
  here_way c w _ _ _ _ (NewerReconf r n rid q) h = tt
  here_way c w _ _ _ _ x h = h

  way : (c : Client m) (w : Work m) (p : Place m) (d : Client m) (v : Work m) (q : Place m) → Way m c w p d v q → At' c w p → At' d v q
  way c w p d v q x h = (let up = way_up m c w p d v q x in let le = h.0 in omega (arith, le, up), here_way c w p d v q x h.1)

  walked_way : (c : Client m) (w : Work m) (d : Client m) (q : Place m) → AllWalked m c w d q → At' c w (Walks []) → At' d w q
  walked_way c w _ _ (HasPlayed k) h = h
  walked_way c w _ _ x h = h

  ends_so : (c : Client m) (w : Work m) (p : Place m) (x : Moved m) → End m c w p x → At' c w p → So x
  unfolding appends append_start syncs sync_start
  ends_so c w _ _ (GoesOn _ _ _ (SyncGoes bs s)) h = inl h.1
  ends_so c w _ _ (GoesOn _ _ _ (WalkGoes o os x)) h = h.1
  ends_so c w _ _ (GoesOn _ _ _ (WalkBegins o os x e)) h = h.1
  ends_so c w _ _ (GoesOn _ _ _ x) h = tt
  ends_so c w _ _ (LearnsNewer _ (SyncLearns bs s)) h = h.1
  ends_so c w _ _ (LearnsNewer _ (WalkLearns o os x)) h = h.1
  ends_so c w _ _ (LearnsNewer _ x) h = tt
  ends_so c w _ _ (Syncs _ _ _ (JudgedAt bs p page)) h = begins' (owns m c p page) (record w { at = p }) c.hosted h.0 (owned c.own p) (h.1 (At p page) refl)
  ends_so c w _ _ (Syncs _ _ _ x) h = inl h.1
  ends_so c w _ _ x h = tt

  feed_ok : (c : Client m) (from : NodeId) (rid : ℕ) (x : Reply) → n0 ≤ c.next → WorkKept m K c.own c.work → Lands (append_by m c.work) (work_ends m c c.work from rid x) → So (feed m c c.work from rid x)
  feed_ok c from rid x le h l = delivered m At' So ends_so way (over_walks m At' So ends_so walked_way) c from rid x (stays_work c.own c.work h)
      (λ w t has doing a other. (
        le,
        (
          subst (λ (d : Hand m). LearnOk m K c.own w (task_in m d)) doing (subst (WorkKept m K c.own) has h),
          subst (Lands (append_of m t)) (end_fed m c from rid x w t has doing a other) (subst (λ (d : Hand m). Lands (append_of m (task_in m d)) (work_ends m c c.work from rid x)) doing (lands w has)),
        ),
      ))
      (λ w q has is e. (le, (subst (WorkKept m K c.own) has h, subst (Lands (append_of m (task_in m w.hand))) (end_newer m c from rid x w q has is e) (lands w has))))
    where
      lands : (w : Work m) → c.work ≡ Some w → Lands (append_of m (task_in m w.hand)) (work_ends m c c.work from rid x)
      lands w has = subst (λ (o : Option (Work m)). Lands (append_by m o) (work_ends m c c.work from rid x)) has l

  -- A command.

  walks_keep : (c : Client m) (x : CommandOf m) → IsWalked m c x → Keep m K c.own (new_work m x)
  walks_keep c _ WalksTrim = λ e. absurd (cc)
  walks_keep c _ k = λ e. absurd (cc)

  takes_ok : (c : Client m) → c.work ≡ None → (x : CommandOf m) (y : Moved m) → Taken m c x y → So y
  unfolding appends append_start syncs sync_start
  takes_ok c free _ _ (SaidAtOnce x d ns s) = idle (moved m d ns) (said_work m c x d ns s ∙ free)
  takes_ok c free _ _ (SyncsFirst x k) = inl (walks_keep c x k)
  takes_ok c free _ _ x = tt

  refused_ok : (c : Client m) (x : CommandOf m) (f : Option Refusal) → WorkKept m K c.own c.work → (f ≡ None → c.work ≡ None) → So (refused_or m c x f)
  refused_ok c x None h free = takes_ok c (free refl) x (accepts m c x) (taken m c x)
  refused_ok c x (Some why) h free = stays_work c.own c.work h

  -- Turns.

  pub command_ok : (c : Client m) (x : CommandOf m) → WorkKept m K c.own c.work → WorkOk (client_command m c x).now.own (client_command m c x).now.work
  unfolding client_command
  command_ok c x h = refused_ok c x (refusal m c x) h (not_busy m c x)

  pub deliver_ok : (c : Client m) (from : NodeId) (rid : ℕ) (y : Msg) → n0 ≤ c.next → WorkKept m K c.own c.work → Lands (append_by m c.work) (work_ends m c c.work from rid (reply y)) → WorkOk (client_deliver m c from rid y).now.own (client_deliver m c from rid y).now.work
  unfolding client_deliver
  deliver_ok c from rid y le h l = feed_ok c from rid (reply y) le h l

  pub tick_ok : (c : Client m) → WorkKept m K c.own c.work → WorkOk (client_tick m c).now.own (client_tick m c).now.work
  unfolding client_tick
  tick_ok c h = by c.work h
    where
      by : (w : Option (Work m)) → WorkKept m K c.own w → WorkOk (tick_by m c w).now.own (tick_by m c w).now.work
      by None k = stays_work c.own c.work h
      by (Some w) k = stays_work c.own c.work h
