-- Through each of a client's turns.
use Rattle.std.proofs.Common.{◌≡◌, ℕ, ◌<◌, ◌≤◌, [], Bool, true, refl, sym, ◌∙◌, subst, arith, Some, None, Option}
use Rattle.std.specs.Prelude.{nat_lt, ◌&&◌}
use Rattle.std.proofs.lemmas.Bool.Decides.{nat_tests}
use Rattle.tg_base.specs.Layouts.{Layout}
use Rattle.tg_base.specs.declared.ids.NodeId.{NodeId}
use Rattle.tg_base.specs.declared.ids.Oid.{Oid}
use Rattle.tg_base.specs.declared.msg.Msg.{Msg}
use Rattle.tg_kind.specs.Meaning.{Meaning}
use Rattle.tg_model.specs.Kinds.{CommandOf}
use Rattle.tg_base.specs.Orders.{node_eq}
use Rattle.tg_protocol.specs.Words.{layout_id}
use Rattle.tg_protocol.specs.Layouts.{range_end}
use Rattle.tg_protocol.specs.Requests.{awaits}
use Rattle.tg_protocol.specs.Replies.{Reply, reply, IsLatest}
use Rattle.tg_protocol.specs.Appending.{append_start}
use Rattle.tg_protocol.specs.Syncing.{sync_start}
use Rattle.tg_protocol.specs.Clients.{Task, Syncing, Walking, Appending, Trimming, Copying', Reconfiguring, Hand, Doing, Learning, Work, Client, refusal}
use Rattle.tg_protocol.specs.Answers.{Moved, appends, syncs}
use Rattle.tg_protocol.specs.ClientSteps.{start_walk, task_in, task_awaited, refused_or, feed}
use Rattle.tg_law_layouts.proofs.Moves.Besides.{OnlyLearns, none_learns, sync_besides, sync_again_besides, append_besides, append_again_besides}
use Rattle.tg_law_layouts.proofs.Moves.Turns.{not_busy}
use Rattle.tg_law_headline.proofs.Issues.Bounds.{lasts_below, TrailOk, AllFit, WalkOk, WalkNext, walks_ok, start_ok, walk_ok}
use Rattle.tg_law_headline.proofs.Issues.Machines.{SyncOk, TailOk, SyncNext, SyncHears, sync_ok, AppendOk, AppendNext, AppendHears, append_ok, again_ok, CopyOk, CopyNext, copy_ok, start_copies}
use Rattle.tg_law_steps.proofs.Places.{Place, Feeds, Newer, OnSync, OnWalk, OnAppend, OnCopy, Over, Walks}
use Rattle.tg_law_steps.proofs.Ways.{Way, FeedsSync, FeedsWalk, FeedsAppend, FeedsCopy, NewerSync, NewerWalk, NewerAppend, NewerCopy, Confirms, Settles, EndsAtOnce, WalkEnds, MetNone, MetLow, MetHigh, StartsOver, AllWalked, HasPlayed}
use Rattle.tg_law_steps.proofs.Ends.{SyncGoes, WalkGoes, WalkBegins, AppendGoes, CopyGoes, WalkLearns, End, GoesOn, LearnsNewer}
use Rattle.tg_law_steps.proofs.Takes.{Taken, SaidAtOnce, said_work}
use Rattle.tg_law_steps.proofs.Along.{delivered, commanded, over_walks}

module _ (m : Meaning) (B : ℕ → ℕ → Type 0) (L : ℕ → ℕ → Type 0) where
  -- all below a layout's start may be named in it, and its ranges end there
  pub record StandOk (p : Layout) : Type 0 where
    pub start : AllFit B L p.epoch p.start
    pub ranges : (r : ℕ) → range_end p r ≤ p.start

  -- a later layout, which starts past what a confirmed tail bounds
  pub record NewerOk (p q : Layout) : Type 0 where
    pub stand : StandOk q
    pub tail : (t : ℕ) → L p.epoch t → AllFit B L q.epoch t × L q.epoch t

  abbrev pub TaskOk : Layout → Work m → Task m → Type 0
  TaskOk p w (Syncing s) = SyncOk B L p.epoch s.work
  TaskOk p w (Walking k os) = TailOk B L p.epoch w.tail w.lasts × WalkOk B L w.tail k
  TaskOk p w (Appending a y) = AppendOk B L a.work
  TaskOk p w (Copying' c) = CopyOk B L p.epoch c.work
  TaskOk p w t = Unit {0}

  -- while it learns a newer layout
  abbrev pub LearnOk : Layout → Work m → Task m → Type 0
  LearnOk p w (Walking k os) = TailOk B L p.epoch w.tail w.lasts × TrailOk w.tail k.trail
  LearnOk p w t = Unit {0}

  abbrev pub HandOk : Layout → Work m → Hand m → Type 0
  HandOk p w (Doing t) = TaskOk p w t
  HandOk p w (Learning ws t) = LearnOk p w t

  abbrev pub WorkOk : Layout → Option (Work m) → Type 0
  WorkOk p None = Unit {0}
  WorkOk p (Some w) = HandOk p w w.hand

  learn_of : (p : Layout) (w : Work m) (h : Hand m) → HandOk p w h → LearnOk p w (task_in m h)
  learn_of p w (Doing (Walking k os)) x = (x.0, x.1.trail)
  learn_of p w (Doing (Syncing s)) x = tt
  learn_of p w (Doing (Appending a y)) x = tt
  learn_of p w (Doing (Trimming t)) x = tt
  learn_of p w (Doing (Copying' c)) x = tt
  learn_of p w (Doing (Reconfiguring r)) x = tt
  learn_of p w (Learning ws t) x = x

  pub record Fine (x : Moved m) : Type 0 where
    pub ok : WorkOk x.now.stand x.now.work
    pub besides : OnlyLearns x.now.stand x.besides

  -- An awaited answer.

  -- what it has to tell
  abbrev pub TaskHears : Client m → Task m → ℕ → Reply → Type 0
  TaskHears c (Syncing s) n x = SyncHears B L c.stand s n x c.next
  TaskHears c (Appending a y) n x = AppendHears B L c.stand a x
  TaskHears c t n x = Unit {0}

  abbrev pub ClientOk : Client m → Type 0
  ClientOk c = WorkOk c.stand c.work

  -- what a client that waits for an answer, or for a newer layout, hears
  pub record ClientHears (c : Client m) (from : NodeId) (rid : ℕ) (x : Reply) : Type 0 where
    pub stand : StandOk c.stand
    pub task : (w : Work m) (t : Task m) → c.work ≡ Some w → w.hand ≡ Doing t → awaits (task_awaited m c.stand t) from rid ≡ true → TaskHears c t from.num x
    pub newer : (q : Layout) → x ≡ IsLatest q → c.stand.epoch < q.epoch → NewerOk c.stand q

  -- Along a turn.

  -- the tail of a work
  abbrev Tail : Layout → Work m → Type 0
  Tail p w = TailOk B L p.epoch w.tail w.lasts

  abbrev At' : Client m → Work m → Place m → Type 0
  At' c w (Feeds t n rid x) = StandOk c.stand × TaskOk c.stand w t × TaskHears c t n x
  At' c w (Newer t n rid q) = LearnOk c.stand w t × NewerOk c.stand q
  At' c w (OnSync bs to) = OnlyLearns c.stand bs × SyncNext B L c.stand.epoch to
  At' c w (OnWalk o os to) = Tail c.stand w × WalkNext B L w.tail to
  At' c w (Over o os x g) = Tail c.stand w
  At' c w (Walks os) = Tail c.stand w
  At' c w (OnAppend y bs to) = OnlyLearns c.stand bs × AppendNext B L to
  At' c w (OnCopy x to) = CopyNext B L c.stand.epoch to
  At' c w p = Unit {0}

  begins_ok : (c : Client m) (w : Work m) (o : Oid) → Tail c.stand w → WalkNext B L w.tail (start_walk m c w o).to
  begins_ok c w o t = start_ok B L c.stand w.tail t.answer.fit o _ w.lo c.cells c.next (lasts_below w.tail o w.lasts t.answer.links)

  way : (c : Client m) (w : Work m) (p : Place m) (d : Client m) (v : Work m) (q : Place m) → Way m c w p d v q → At' c w p → At' d v q
  unfolding sync_start
  way c w _ _ _ _ (FeedsSync s n rid x) (o, k, h) = (sync_besides c.stand s s.work n x c.next, sync_ok B L c.stand s n x c.next h k)
  way c w _ _ _ _ (FeedsWalk y os n rid x) (o, k, h) = (k.0, walk_ok B L c.stand w.tail k.0.answer.fit y n x c.next k.1)
  way c w _ _ _ _ (FeedsAppend a y n rid x) (o, k, h) = (append_besides c.stand a a.token a.work n x c.next refl, append_ok B L c.stand a n x c.next h k)
  way c w _ _ _ _ (FeedsCopy y n rid x) (o, k, h) = copy_ok B L c.stand y n x c.next (λ q l. o.start q (let r = o.ranges y.range in omega (arith, l, r))) k
  way c w _ _ _ _ (NewerSync s n rid q) (k, o) = (sync_again_besides q s c.next, tt)
  way c w _ _ _ _ (NewerWalk y os n rid q) (k, o) = let f = o.tail w.tail k.0.later in (record { answer = record { fit = f.0; links = k.0.answer.links }; later = f.1 }, walks_ok B L q w.tail f.0 c.next y k.1)
  way c w _ _ _ _ (NewerAppend a y n rid q) (k, o) = (append_again_besides q a c.next, again_ok B L q o.stand.start a c.next)
  way c w _ _ _ _ (NewerCopy x n rid q e) k = start_copies B L q.epoch x.unit x.range x.stripe c.next
  way c w _ _ _ _ (Confirms bs t ls) k = k.1
  way c w _ _ _ _ (Settles bs t ls s) k = k.1
  way c w _ _ _ _ (EndsAtOnce o os x e) k = k
  way c w _ _ _ _ (WalkEnds o os x) k = k.0
  way c w _ _ _ _ (MetNone o os x) k = k
  way c w _ _ _ _ (MetLow o os x b e f) k = k
  way c w _ _ _ _ (MetHigh o os x b e f z) k = k
  way c w _ _ _ _ (StartsOver o os x b e f z) k = k
  way c w _ _ _ _ x k = tt

  walked_way : (c : Client m) (w : Work m) (d : Client m) (q : Place m) → AllWalked m c w d q → At' c w (Walks []) → At' d w q
  walked_way c w _ _ (HasPlayed of) k = tt
  walked_way c w _ _ x k = tt

  ends_fine : (c : Client m) (w : Work m) (p : Place m) (x : Moved m) → End m c w p x → At' c w p → Fine x
  unfolding appends append_start syncs sync_start
  ends_fine c w _ _ (GoesOn _ _ _ (SyncGoes bs s)) k = record { ok = k.1; besides = k.0 }
  ends_fine c w _ _ (GoesOn _ _ _ (WalkGoes o os x)) k = record { ok = k; besides = none_learns _ }
  ends_fine c w _ _ (GoesOn _ _ _ (WalkBegins o os x e)) k = record { ok = (k, subst (WalkNext B L w.tail) e (begins_ok c w o k)); besides = none_learns _ }
  ends_fine c w _ _ (GoesOn _ _ _ (AppendGoes y bs a)) k = record { ok = k.1; besides = k.0 }
  ends_fine c w _ _ (GoesOn _ _ _ (CopyGoes x y)) k = record { ok = k; besides = none_learns _ }
  ends_fine c w _ _ (GoesOn _ _ _ x) k = record { ok = tt; besides = none_learns _ }
  ends_fine c w _ _ (LearnsNewer _ (WalkLearns o os x)) k = record { ok = k; besides = none_learns _ }
  ends_fine c w _ _ (LearnsNewer _ x) k = record { ok = tt; besides = none_learns _ }
  ends_fine c w _ _ x k = record { ok = tt; besides = none_learns _ }

  takes_fine : (c : Client m) (x : CommandOf m) → c.work ≡ None → (y : Moved m) → Taken m c x y → Fine y
  unfolding appends append_start syncs sync_start
  takes_fine c _ free _ (SaidAtOnce x d ns s) = record { ok = subst (WorkOk d.stand) (sym (said_work m c x d ns s ∙ free)) tt; besides = none_learns _ }
  takes_fine c _ free _ x = record { ok = tt; besides = none_learns _ }

  -- Turns.

  pub command_fine : (c : Client m) (x : CommandOf m) → ClientOk c → Fine (refused_or m c x (refusal m c x))
  command_fine c x k = commanded m Fine c x (λ why e. record { ok = k; besides = none_learns _ }) (λ e. takes_fine c x (not_busy m c x e))

  is_newer : (c : Client m) (q : Layout) (a : Bool) → (a && nat_lt c.stand.epoch q.epoch) ≡ true → c.stand.epoch < q.epoch
  is_newer c q a e = grind (arith, nat_tests, e)

  pub deliver_fine : (c : Client m) (from : NodeId) (rid : ℕ) (y : Msg) → ClientOk c → ClientHears c from rid (reply y) → Fine (feed m c c.work from rid (reply y))
  deliver_fine c from rid y k g = delivered m At' Fine ends_fine way (over_walks m At' Fine ends_fine walked_way) c from rid (reply y) (record { ok = k; besides = none_learns _ })
      (λ w t has doing a other. (g.stand, subst (HandOk c.stand w) doing (subst (WorkOk c.stand) has k), g.task w t has doing a))
      (λ w q has is a. (learn_of c.stand w w.hand (subst (WorkOk c.stand) has k), g.newer q is (is_newer c q (node_eq from (layout_id from.num)) a)))
