-- Through each of a client's turns: the tail for which it walks is one with which its sync has ended.
use Rattle.std.proofs.Common.{◌∙◌, ◌≡◌, ℕ, [], true, sym, subst, Some, None, Option}
use Rattle.tg_base.specs.Layouts.{Layout}
use Rattle.tg_base.specs.declared.ids.NodeId.{NodeId}
use Rattle.tg_base.specs.declared.msg.Msg.{Msg}
use Rattle.tg_kind.specs.Meaning.{Meaning}
use Rattle.tg_model.specs.Kinds.{CommandOf}
use Rattle.tg_protocol.specs.Requests.{awaits, Next, Goes, Learns, Ends}
use Rattle.tg_protocol.specs.Replies.{Reply, reply}
use Rattle.tg_protocol.specs.Appending.{append_start}
use Rattle.tg_protocol.specs.Syncing.{Sync, SyncWork, Checking, Confirmed, sync_start, sync_feed}
use Rattle.tg_protocol.specs.Clients.{Task, Syncing, Walking, Appending, Trimming, Copying', Reconfiguring, Hand, Doing, Learning, Work, Client}
use Rattle.tg_protocol.specs.Answers.{Moved, moved, appends, syncs}
use Rattle.tg_protocol.specs.ClientSteps as step
use Rattle.tg_protocol.specs.ClientSteps.{task_in, task_awaited, client_command, client_deliver, client_tick}
use Rattle.tg_law_layouts.proofs.Moves.Turns.{not_busy}
use Rattle.tg_law_steps.proofs.Places.{Place, Feeds, Newer, OnSync, OnWalk, Over, Walks}
use Rattle.tg_law_steps.proofs.Ways.{Way, FeedsSync, FeedsWalk, FeedsAppend, FeedsTrims, FeedsCopy, FeedsReconf, NewerSync, AllWalked, HasPlayed}
use Rattle.tg_law_steps.proofs.Ends.{End, GoesOn, SyncGoes, WalkGoes, WalkBegins, LearnsNewer, WalkLearns, Syncs}
use Rattle.tg_law_steps.proofs.Takes.{Taken, SaidAtOnce, SyncsFirst, said_work}
use Rattle.tg_law_steps.proofs.Along.{delivered, commanded, over_walks}

-- What a sync's work is to have, at its beginning too, and the tails with which it may end.
module _ (m : Meaning) (SyncOk : Layout → SyncWork → Type 0) (Past : ℕ → Type 0) (begun : (p : Layout) (r : ℕ) → SyncOk p (Checking r)) where
  abbrev pub NextOk : Layout → Next Sync Confirmed → Type 0
  NextOk p (Goes s) = SyncOk p s.work
  NextOk p (Learns s) = Unit {0}
  NextOk p (Ends x) = Past x.tail

  abbrev pub TaskTold : Layout → ℕ → Task m → Type 0
  TaskTold p tail (Syncing s) = SyncOk p s.work
  TaskTold p tail (Walking k os) = Past tail
  TaskTold p tail t = Unit {0}

  -- while it learns a newer layout
  abbrev pub LearnTold : ℕ → Task m → Type 0
  LearnTold tail (Walking k os) = Past tail
  LearnTold tail t = Unit {0}

  abbrev pub HandTold : Layout → ℕ → Hand m → Type 0
  HandTold p tail (Doing t) = TaskTold p tail t
  HandTold p tail (Learning ws t) = LearnTold tail t

  abbrev pub WorkTold : Layout → Option (Work m) → Type 0
  WorkTold p None = Unit {0}
  WorkTold p (Some w) = HandTold p w.tail w.hand

  abbrev pub ClientTold : Client m → Type 0
  ClientTold c = WorkTold c.stand c.work

  abbrev Fine : Moved m → Type 0
  Fine x = WorkTold x.now.stand x.now.work

  pub learn_of : (p : Layout) (tail : ℕ) (h : Hand m) → HandTold p tail h → LearnTold tail (task_in m h)
  learn_of p tail (Doing (Walking k os)) x = x
  learn_of p tail (Doing (Syncing s)) x = tt
  learn_of p tail (Doing (Appending a y)) x = tt
  learn_of p tail (Doing (Trimming t)) x = tt
  learn_of p tail (Doing (Copying' c)) x = tt
  learn_of p tail (Doing (Reconfiguring r)) x = tt
  learn_of p tail (Learning ws t) x = x

  idle_fine : (x : Moved m) → x.now.work ≡ None → Fine x
  idle_fine x e = subst (λ (w : Option (Work m)). WorkTold x.now.stand w) (sym e) tt

  -- An awaited answer.

  -- what it has to tell
  abbrev pub TaskHears : Client m → Task m → ℕ → Reply → Type 0
  TaskHears c (Syncing s) n x = NextOk c.stand (sync_feed c.stand s s.work n x c.next).to
  TaskHears c t n x = Unit {0}

  -- what a client that waits for an answer hears
  abbrev pub ClientHears : Client m → NodeId → ℕ → Reply → Type 0
  ClientHears c from rid x = (w : Work m) (t : Task m) → c.work ≡ Some w → w.hand ≡ Doing t → awaits (task_awaited m c.stand t) from rid ≡ true → TaskHears c t from.num x

  -- Along a turn.

  abbrev Fits : Client m → Work m → Place m → Type 0
  Fits c w (Feeds t n rid x) = TaskTold c.stand w.tail t × TaskHears c t n x
  Fits c w (Newer t n rid q) = LearnTold w.tail t
  Fits c w (OnSync bs to) = NextOk c.stand to
  Fits c w (OnWalk o os to) = Past w.tail
  Fits c w (Over o os x g) = Past w.tail
  Fits c w (Walks os) = Past w.tail
  Fits c w p = Unit {0}

  way : (c : Client m) (w : Work m) (p : Place m) (d : Client m) (v : Work m) (q : Place m) → Way m c w p d v q → Fits c w p → Fits d v q
  unfolding sync_start
  way c w _ _ _ _ (FeedsSync s n rid x) h = h.1
  way c w _ _ _ _ (FeedsWalk k os n rid x) h = h.0
  way c w _ _ _ _ (FeedsAppend a y n rid x) h = tt
  way c w _ _ _ _ (FeedsTrims t n rid x) h = tt
  way c w _ _ _ _ (FeedsCopy y n rid x) h = tt
  way c w _ _ _ _ (FeedsReconf r n rid x) h = tt
  way c w _ _ _ _ (NewerSync s n rid q) h = begun q c.next
  way c w _ _ _ _ x h = h

  all_walked : (c : Client m) (w : Work m) (d : Client m) (q : Place m) → AllWalked m c w d q → Fits c w (Walks []) → Fits d w q
  all_walked c w _ _ (HasPlayed k) h = tt
  all_walked c w _ _ x h = tt

  ends_fine : (c : Client m) (w : Work m) (p : Place m) (x : Moved m) → End m c w p x → Fits c w p → Fine x
  unfolding appends append_start syncs sync_start
  ends_fine c w _ _ (GoesOn _ _ _ (SyncGoes bs s)) h = h
  ends_fine c w _ _ (GoesOn _ _ _ (WalkGoes o os x)) h = h
  ends_fine c w _ _ (GoesOn _ _ _ (WalkBegins o os x e)) h = h
  ends_fine c w _ _ (GoesOn _ _ _ x) h = tt
  ends_fine c w _ _ (LearnsNewer _ (WalkLearns o os x)) h = h
  ends_fine c w _ _ (LearnsNewer _ x) h = tt
  ends_fine c w _ _ (Syncs d v os x) h = begun d.stand d.next
  ends_fine c w _ _ x h = tt

  takes_fine : (c : Client m) (x : CommandOf m) → c.work ≡ None → (y : Moved m) → Taken m c x y → Fine y
  unfolding appends append_start syncs sync_start
  takes_fine c _ e _ (SaidAtOnce x d ns s) = idle_fine (moved m d ns) (said_work m c x d ns s ∙ e)
  takes_fine c _ e _ (SyncsFirst x k) = begun c.stand c.next
  takes_fine c _ e _ x = tt

  -- Turns.

  pub command_fine : (c : Client m) (x : CommandOf m) → ClientTold c → ClientTold (client_command m c x).now
  unfolding client_command
  command_fine c x k = commanded m Fine c x (λ why e. k) (λ e. takes_fine c x (not_busy m c x e))

  pub deliver_fine : (c : Client m) (from : NodeId) (rid : ℕ) (y : Msg) → ClientTold c → ClientHears c from rid (reply y) → ClientTold (client_deliver m c from rid y).now
  unfolding client_deliver
  deliver_fine c from rid y k g =
      delivered m Fits Fine ends_fine way (over_walks m Fits Fine ends_fine all_walked) c from rid (reply y) k
      (λ w t has doing a other. (subst (λ (d : Hand m). HandTold c.stand w.tail d) doing (told w has), g w t has doing a)) (λ w q has is new. learn_of c.stand w.tail w.hand (told w has))
    where
      told : (w : Work m) → c.work ≡ Some w → HandTold c.stand w.tail w.hand
      told w has = subst (λ (o : Option (Work m)). WorkTold c.stand o) has k

  pub tick_fine : (c : Client m) → ClientTold c → ClientTold (client_tick m c).now
  unfolding client_tick
  tick_fine c k = by c.work k
    where
      by : (w : Option (Work m)) → WorkTold c.stand w → ClientTold (step.tick_by m c w).now
      by None f = k
      by (Some w) f = k
