-- What a client's machine in hand knows of its cell, through each of the client's turns.
use Rattle.std.proofs.Common.{◌≡◌, ℕ, List, [], refl, sym, ◌∙◌, subst, Some, None, Option}
use Rattle.tg_base.specs.Layouts.{Layout}
use Rattle.tg_base.specs.declared.ids.Oid.{Oid}
use Rattle.tg_base.specs.declared.msg.Msg.{Msg}
use Rattle.tg_base.specs.declared.packet.Out.{Out}
use Rattle.tg_kind.specs.Meaning.{Meaning}
use Rattle.tg_model.specs.Kinds.{CommandOf}
use Rattle.tg_model.specs.declared.refusal.Refusal.{Refusal}
use Rattle.tg_protocol.specs.Appending.{append_start}
use Rattle.tg_protocol.specs.Syncing.{sync_start}
use Rattle.tg_protocol.specs.Walking.{walk_start, trail}
use Rattle.tg_protocol.specs.Clients.{Task, Syncing, Walking, Appending, Copying', Hand, Doing, Learning, Work, Client}
use Rattle.tg_protocol.specs.Answers.{Moved, moved, appends, syncs}
use Rattle.tg_protocol.specs.ClientSteps as step
use Rattle.tg_protocol.specs.ClientSteps.{goes_on, start_walk, knows, task_feed, on_newer, accepts, refused_or}
use Rattle.tg_law_steps.proofs.Places.{Place, Feeds, Newer, OnSync, OnWalk, OnAppend, OnCopy, Walks, becomes}
use Rattle.tg_law_steps.proofs.Ways.{Way, FeedsSync, FeedsWalk, FeedsAppend, FeedsCopy, NewerSync, NewerWalk, NewerAppend, NewerCopy, sync_fed, walk_fed, append_fed, copy_fed, AllWalked, IsRescue}
use Rattle.tg_law_steps.proofs.Ends.{End, GoesOn, IsGoing, SyncGoes, WalkGoes, WalkBegins, AppendGoes, CopyGoes}
use Rattle.tg_law_steps.proofs.Takes.{Taken, SaidAtOnce, taken, said_work}
use Rattle.tg_law_steps.proofs.Along.{along, over_walks}
use Rattle.tg_base.specs.declared.packet.Packet.{Packet}
use Rattle.tg_protocol.specs.Replies.{reply}
use Rattle.tg_law_layouts.proofs.Moves.Besides.{OnlyLearns, none_learns, sync_besides, sync_again_besides, append_besides, append_again_besides}
use Rattle.tg_law_cells.proofs.Cells.Jobs.{AppendOk, AppendNext, AppendClaims, append_ok, append_again_ok, SyncOk, SyncNext, SyncClaims, sync_ok, sync_start_ok, MaybeOk, WalkNext, MaybeClaims, walk_ok, walks_ok, CopyOk, CopyNext, CopyClaims, copy_ok, copy_start_ok}

module _ (m : Meaning) (ps : List Packet) where
  abbrev pub TaskOk : Layout → Task m → Type 0
  TaskOk p (Syncing s) = SyncOk ps p s.work
  TaskOk p (Walking w os) = MaybeOk ps p w.job
  TaskOk p (Appending a x) = AppendOk ps p a.work
  TaskOk p (Copying' c) = CopyOk ps p c.work
  TaskOk p t = Unit {0}

  -- while it learns, a machine knows nothing that is used
  abbrev pub HandOk : Layout → Hand m → Type 0
  HandOk p (Doing t) = TaskOk p t
  HandOk p (Learning ws t) = Unit {0}

  abbrev pub WorkOk : Layout → Option (Work m) → Type 0
  WorkOk p None = Unit {0}
  WorkOk p (Some w) = HandOk p w.hand

  pub record Fine (x : Moved m) : Type 0 where
    pub ok : WorkOk x.now.stand x.now.work
    pub besides : OnlyLearns x.now.stand x.besides

  idle_fine : (x : Moved m) → x.now.work ≡ None → x.besides ≡ [] → Fine x
  idle_fine x e f = record { ok = subst (λ (w : Option (Work m)). WorkOk x.now.stand w) (sym e) tt; besides = subst (OnlyLearns x.now.stand) (sym f) (none_learns x.now.stand) }

  -- Along a turn.

  abbrev Here : Client m → Work m → Place m → Type 0
  Here c w (Feeds (Syncing s) n rid x) = SyncNext ps c.stand (sync_fed m c s n x).to
  Here c w (Feeds (Walking k os) n rid x) = WalkNext ps c.stand (walk_fed m c k n x).to
  Here c w (Feeds (Appending a y) n rid x) = AppendNext ps c.stand (append_fed m c a n x).to
  Here c w (Feeds (Copying' y) n rid x) = CopyNext ps c.stand (copy_fed m c y n x).to
  Here c w (OnSync bs to) = OnlyLearns c.stand bs × SyncNext ps c.stand to
  Here c w (OnWalk o os to) = WalkNext ps c.stand to
  Here c w (OnAppend y bs to) = OnlyLearns c.stand bs × AppendNext ps c.stand to
  Here c w (OnCopy x to) = CopyNext ps c.stand to
  Here c w p = Unit {0}

  way : (c : Client m) (w : Work m) (p : Place m) (d : Client m) (v : Work m) (q : Place m) → Way m c w p d v q → Here c w p → Here d v q
  way c w _ _ _ _ (FeedsSync s n rid x) h = (sync_besides c.stand s s.work n x c.next, h)
  way c w _ _ _ _ (FeedsWalk k os n rid x) h = h
  way c w _ _ _ _ (FeedsAppend a y n rid x) h = (append_besides c.stand a a.token a.work n x c.next refl, h)
  way c w _ _ _ _ (FeedsCopy y n rid x) h = h
  way c w _ _ _ _ (NewerSync s n rid q) h = (sync_again_besides q s c.next, sync_start_ok ps q s.oids c.next)
  way c w _ _ _ _ (NewerWalk k os n rid q) h = walks_ok ps q c.next k
  way c w _ _ _ _ (NewerAppend a y n rid q) h = (append_again_besides q a c.next, append_again_ok ps q a c.next)
  way c w _ _ _ _ (NewerCopy x n rid q fine) h = copy_start_ok ps q x.unit x.range x.stripe c.next
  way c w _ _ _ _ x h = tt

  walked_way : (c : Client m) (w : Work m) (d : Client m) (q : Place m) → AllWalked m c w d q → Here c w (Walks []) → Here d w q
  walked_way c w _ _ (IsRescue at of) h = tt
  walked_way c w _ _ x h = tt

  start_walk_ok : (c : Client m) (w : Work m) (o : Oid) → WalkNext ps c.stand (start_walk m c w o).to
  unfolding walk_start
  start_walk_ok c w o = walks_ok ps c.stand c.next (record { oid = o; lo = w.lo; cells = c.cells; trail = trail (step.lasts_of m w o) 0; members = []; job = None })

  going_fine : (c : Client m) (w : Work m) (p : Place m) (d : Client m) (t : Task m) (bs : List Out) → IsGoing m c w p d t bs → Here c w p → Fine (goes_on m d w t bs)
  going_fine c w _ _ _ _ (SyncGoes bs s) h = record { ok = h.1; besides = h.0 }
  going_fine c w _ _ _ _ (WalkGoes o os x) h = record { ok = h; besides = none_learns _ }
  going_fine c w _ _ _ _ (WalkBegins o os x e) h = record { ok = subst (WalkNext ps c.stand) e (start_walk_ok c w o); besides = none_learns _ }
  going_fine c w _ _ _ _ (AppendGoes y bs a) h = record { ok = h.1; besides = h.0 }
  going_fine c w _ _ _ _ (CopyGoes x y) h = record { ok = h; besides = none_learns _ }
  going_fine c w _ _ _ _ x h = record { ok = tt; besides = none_learns _ }

  ends_fine : (c : Client m) (w : Work m) (p : Place m) (x : Moved m) → End m c w p x → Here c w p → Fine x
  unfolding appends append_start syncs sync_start
  ends_fine c w p _ (GoesOn d t bs x) h = going_fine c w p d t bs x h
  ends_fine c w _ _ x h = record { ok = tt; besides = none_learns _ }

  turn_fine : (c : Client m) (w : Work m) (p : Place m) → Here c w p → Fine (becomes m c w p)
  turn_fine = along m Here Fine ends_fine way (over_walks m Here Fine ends_fine walked_way)

  pub newer_fine : (c : Client m) (w : Work m) (t : Task m) (n rid : ℕ) (q : Layout) → Fine (on_newer m c w t n rid q)
  newer_fine c w t n rid q = turn_fine c w (Newer t n rid q) tt

  -- An awaited answer.

  abbrev pub TaskClaims : Layout → Task m → Msg → Type 0
  TaskClaims p (Syncing s) y = SyncClaims ps p s.work y
  TaskClaims p (Walking w os) y = MaybeClaims ps p w.job y
  TaskClaims p (Appending a x) y = AppendClaims ps p a.work y
  TaskClaims p (Copying' c) y = CopyClaims ps p c.work y
  TaskClaims p t y = Unit {0}

  fed : (c : Client m) (w : Work m) (t : Task m) (n rid : ℕ) (y : Msg) → TaskOk c.stand t → TaskClaims c.stand t y → Here c w (Feeds t n rid (reply y))
  fed c w (Syncing s) n rid y k h = sync_ok ps c.stand s n y c.next k h
  fed c w (Walking v os) n rid y k h = walk_ok ps c.stand v n y c.next k h
  fed c w (Appending a x) n rid y k h = append_ok ps c.stand a n y c.next k h
  fed c w (Copying' x) n rid y k h = copy_ok ps c.stand x n y c.next k h
  fed c w t n rid y k h = tt

  pub task_fine : (c : Client m) (w : Work m) (t : Task m) (n rid : ℕ) (y : Msg) → TaskOk c.stand t → TaskClaims c.stand t y → Fine (task_feed m c w t n rid (reply y))
  task_fine c w t n rid y k h = turn_fine c w (Feeds t n rid (reply y)) (fed c w t n rid y k h)

  -- Commands.

  takes_fine : (c : Client m) (x : CommandOf m) → c.work ≡ None → (y : Moved m) → Taken m c x y → Fine y
  unfolding appends append_start syncs sync_start
  takes_fine c _ free _ (SaidAtOnce x d ns s) = idle_fine (moved m d ns) (said_work m c x d ns s ∙ free) refl
  takes_fine c _ free _ x = record { ok = tt; besides = none_learns _ }

  pub refused_fine : (c : Client m) (x : CommandOf m) (o : Option Refusal) → (o ≡ None → c.work ≡ None) → WorkOk c.stand c.work → Fine (refused_or m c x o)
  refused_fine c x None free k = takes_fine c x (free refl) (accepts m c x) (taken m c x)
  refused_fine c x (Some why) free k = record { ok = k; besides = none_learns _ }
