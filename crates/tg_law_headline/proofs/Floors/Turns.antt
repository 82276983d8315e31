-- Through each of a client's turns: the tail for which it walks is one that its sync has confirmed.
use Rattle.std.proofs.Common.{◌≡◌, ℕ, ◌<◌, ◌≤◌, List, [], Bool, true, sym, ◌∙◌, subst, arith, Some, None, Option}
use Rattle.std.specs.Prelude.{nat_lt, ◌&&◌}
use Rattle.std.proofs.lemmas.Bool.Decides.{nat_tests}
use Rattle.tg_base.specs.Layouts.{Layout}
use Rattle.tg_base.specs.declared.ids.NodeId.{NodeId}
use Rattle.tg_base.specs.declared.ids.Oid.{Oid}
use Rattle.tg_base.specs.declared.msg.Msg.{Msg}
use Rattle.tg_kind.specs.Meaning.{Meaning}
use Rattle.tg_model.specs.Kinds.{CommandOf}
use Rattle.tg_base.specs.Orders.{node_eq}
use Rattle.tg_protocol.specs.Words.{layout_id}
use Rattle.tg_protocol.specs.Requests.{awaits, Next}
use Rattle.tg_protocol.specs.Replies.{Reply, reply, IsLatest}
use Rattle.tg_protocol.specs.Appending.{append_start}
use Rattle.tg_protocol.specs.Syncing.{Sync, SyncWork, Confirmed, sync_start, sync_feed}
use Rattle.tg_protocol.specs.Views.{Entries}
use Rattle.tg_protocol.specs.Clients.{Task, Syncing, Walking, Appending, Trimming, Copying', Reconfiguring, Hand, Doing, Learning, Work, Client}
use Rattle.tg_protocol.specs.Answers.{Moved, appends, syncs}
use Rattle.tg_protocol.specs.ClientSteps.{task_in, task_awaited, client_command, client_deliver, client_tick, tick_by}
use Rattle.tg_law_layouts.proofs.Moves.Turns.{not_busy}
use Rattle.tg_law_replies.specs.Replies.Steps.{EachDelivery}
use Rattle.tg_law_syncs.proofs.Known.Far as far
use Rattle.tg_law_syncs.proofs.Known.Far.{SyncFar, SyncHeard, sync_far}
use Rattle.tg_law_replies.proofs.Replies.Reached.{each_delivered}
use Rattle.tg_law_steps.proofs.Places.{Place, Feeds, Newer, OnSync, OnWalk, Over, Walks}
use Rattle.tg_law_steps.proofs.Ways.{Way, FeedsSync, FeedsWalk, NewerWalk, Confirms, Settles, EndsAtOnce, WalkEnds, MetNone, MetLow, MetHigh, StartsOver, AllWalked, HasPlayed}
use Rattle.tg_law_steps.proofs.Ends.{SyncGoes, WalkGoes, WalkBegins, WalkLearns, End, GoesOn, LearnsNewer}
use Rattle.tg_law_steps.proofs.Takes.{Taken, SaidAtOnce, said_work}
use Rattle.tg_law_steps.proofs.Along.{NoLatest, delivered, commanded, over_walks}

abbrev pub Any : ℕ → Type 0
Any t = Unit {0}

abbrev pub AnyTold : ℕ → (ℕ → Type 0) → Type 0
AnyTold rid G = Unit {0}

-- Of a layout: the tails that its sequencer told, those that are confirmed if they were told, and those for which a client
-- that stands there may walk.
module _ (m : Meaning) (told settled past : Layout → ℕ → Type 0) (low : (p : Layout) (t : ℕ) → t ≤ p.start → settled p t) (both : (p : Layout) (t : ℕ) → told p t → settled p t → past p t) (onto : (p q : Layout) (t : ℕ) → p.epoch < q.epoch → past p t → past q t) where
  abbrev pub SyncTold : Layout → SyncWork → Type 0
  SyncTold p w = SyncFar p Any (settled p) AnyTold (told p) w

  abbrev SyncNext : Layout → Next Sync Confirmed → Type 0
  SyncNext p to = far.SyncNext p Any (settled p) AnyTold (told p) to

  abbrev pub TaskTold : Layout → ℕ → Task m → Type 0
  TaskTold p tail (Syncing s) = SyncTold p s.work
  TaskTold p tail (Walking k os) = past p tail
  TaskTold p tail t = Unit {0}

  -- while it learns a newer layout
  abbrev pub LearnTold : Layout → ℕ → Task m → Type 0
  LearnTold p tail (Walking k os) = past p tail
  LearnTold p tail t = Unit {0}

  abbrev pub HandTold : Layout → ℕ → Hand m → Type 0
  HandTold p tail (Doing t) = TaskTold p tail t
  HandTold p tail (Learning ws t) = LearnTold p tail t

  abbrev pub WorkTold : Layout → Option (Work m) → Type 0
  WorkTold p None = Unit {0}
  WorkTold p (Some w) = HandTold p w.tail w.hand

  abbrev pub ClientTold : Client m → Type 0
  ClientTold c = WorkTold c.stand c.work

  abbrev Fine : Moved m → Type 0
  Fine x = WorkTold x.now.stand x.now.work

  pub learn_of : (p : Layout) (tail : ℕ) (h : Hand m) → HandTold p tail h → LearnTold p tail (task_in m h)
  learn_of p tail (Doing (Walking k os)) x = x
  learn_of p tail (Doing (Syncing s)) x = tt
  learn_of p tail (Doing (Appending a y)) x = tt
  learn_of p tail (Doing (Trimming t)) x = tt
  learn_of p tail (Doing (Copying' c)) x = tt
  learn_of p tail (Doing (Reconfiguring r)) x = tt
  learn_of p tail (Learning ws t) x = x

  -- An awaited answer.

  -- what it has to tell
  abbrev pub TaskHears : Client m → Task m → ℕ → Reply → Type 0
  TaskHears c (Syncing s) n x = SyncHeard c.stand Any (settled c.stand) AnyTold (told c.stand) s n x c.next
  TaskHears c t n x = Unit {0}

  pub sync_told : (c : Client m) (s : Sync) (n : ℕ) (x : Reply) → TaskHears c (Syncing s) n x → SyncTold c.stand s.work → SyncNext c.stand (sync_feed c.stand s s.work n x c.next).to
  sync_told c s n x h k = sync_far c.stand Any (settled c.stand) AnyTold (low c.stand) 0 (λ rid F le. tt) (told c.stand) s n x c.next h k

  -- what a client that waits for an answer hears
  abbrev pub ClientHears : Client m → NodeId → ℕ → Reply → Type 0
  ClientHears c from rid x = (w : Work m) (t : Task m) → c.work ≡ Some w → w.hand ≡ Doing t → awaits (task_awaited m c.stand t) from rid ≡ true → TaskHears c t from.num x

  -- Along a turn.

  abbrev At : Client m → Work m → Place m → Type 0
  At c w (Feeds t n rid x) = TaskTold c.stand w.tail t × TaskHears c t n x
  At c w (Newer t n rid q) = LearnTold c.stand w.tail t × (c.stand.epoch < q.epoch)
  At c w (OnSync bs to) = SyncNext c.stand to
  At c w (OnWalk o os to) = past c.stand w.tail
  At c w (Over o os x g) = past c.stand w.tail
  At c w (Walks os) = past c.stand w.tail
  At c w p = Unit {0}

  way : (c : Client m) (w : Work m) (p : Place m) (d : Client m) (v : Work m) (q : Place m) → Way m c w p d v q → At c w p → At d v q
  unfolding sync_start
  way c w _ _ _ _ (FeedsSync s n rid x) k = sync_told c s n x k.1 k.0
  way c w _ _ _ _ (FeedsWalk y os n rid x) k = k.0
  way c w _ _ _ _ (NewerWalk y os n rid q) k = onto c.stand q w.tail k.1 k.0
  way c w _ _ _ _ (Confirms bs t ls) k = both c.stand t k.0 k.1
  way c w _ _ _ _ (Settles bs t ls s) k = both c.stand t k.0 k.1
  way c w _ _ _ _ (EndsAtOnce o os x e) k = k
  way c w _ _ _ _ (WalkEnds o os x) k = k
  way c w _ _ _ _ (MetNone o os x) k = k
  way c w _ _ _ _ (MetLow o os x b e f) k = k
  way c w _ _ _ _ (MetHigh o os x b e f z) k = k
  way c w _ _ _ _ (StartsOver o os x b e f z) k = k
  way c w _ _ _ _ x k = tt

  walked_way : (c : Client m) (w : Work m) (d : Client m) (q : Place m) → AllWalked m c w d q → At c w (Walks []) → At d w q
  walked_way c w _ _ (HasPlayed of) k = tt
  walked_way c w _ _ x k = tt

  ends_fine : (c : Client m) (w : Work m) (p : Place m) (x : Moved m) → End m c w p x → At c w p → Fine x
  unfolding appends append_start syncs sync_start
  ends_fine c w _ _ (GoesOn _ _ _ (SyncGoes bs s)) k = k
  ends_fine c w _ _ (GoesOn _ _ _ (WalkGoes o os x)) k = k
  ends_fine c w _ _ (GoesOn _ _ _ (WalkBegins o os x e)) k = k
  ends_fine c w _ _ (GoesOn _ _ _ x) k = tt
  ends_fine c w _ _ (LearnsNewer _ (WalkLearns o os x)) k = k
  ends_fine c w _ _ (LearnsNewer _ x) k = tt
  ends_fine c w _ _ x k = tt

  takes_fine : (c : Client m) (x : CommandOf m) → c.work ≡ None → (y : Moved m) → Taken m c x y → Fine y
  unfolding appends append_start syncs sync_start
  takes_fine c _ free _ (SaidAtOnce x d ns s) = subst (WorkTold d.stand) (sym (said_work m c x d ns s ∙ free)) tt
  takes_fine c _ free _ x = tt

  abbrev pub AtTail : Client m → Work m → Type 0
  AtTail c w = past c.stand w.tail

  -- Turns.

  pub command_fine : (c : Client m) (x : CommandOf m) → ClientTold c → ClientTold (client_command m c x).now
  unfolding client_command
  command_fine c x k = commanded m Fine c x (λ why e. k) (λ e. takes_fine c x (not_busy m c x e))

  is_newer : (c : Client m) (q : Layout) (a : Bool) → (a && nat_lt c.stand.epoch q.epoch) ≡ true → c.stand.epoch < q.epoch
  is_newer c q a e = grind (arith, nat_tests, e)

  module _ (c : Client m) (from : NodeId) (rid : ℕ) (y : Msg) (k : ClientTold c) (g : ClientHears c from rid (reply y)) where
    feeds_at : (w : Work m) (t : Task m) → c.work ≡ Some w → w.hand ≡ Doing t → awaits (task_awaited m c.stand t) from rid ≡ true → NoLatest (reply y) → At c w (Feeds t from.num rid (reply y))
    feeds_at w t has doing a other = (subst (HandTold c.stand w.tail) doing (subst (WorkTold c.stand) has k), g w t has doing a)

    newer_at : (w : Work m) (q : Layout) → c.work ≡ Some w → reply y ≡ IsLatest q → (node_eq from (layout_id from.num) && nat_lt c.stand.epoch q.epoch) ≡ true → At c w (Newer (task_in m w.hand) from.num rid q)
    newer_at w q has is a = (learn_of c.stand w.tail w.hand (subst (WorkTold c.stand) has k), is_newer c q (node_eq from (layout_id from.num)) a)

  pub deliver_fine : (c : Client m) (from : NodeId) (rid : ℕ) (y : Msg) → ClientTold c → ClientHears c from rid (reply y) → ClientTold (client_deliver m c from rid y).now
  unfolding client_deliver
  deliver_fine c from rid y k g = delivered m At Fine ends_fine way (over_walks m At Fine ends_fine walked_way) c from rid (reply y) k (feeds_at c from rid y k g) (newer_at c from rid y k g)

  pub tick_fine : (c : Client m) → ClientTold c → ClientTold (client_tick m c).now
  unfolding client_tick
  tick_fine c k = by c.work k
    where
      by : (w : Option (Work m)) → WorkTold c.stand w → ClientTold (tick_by m c w).now
      by None f = k
      by (Some w) f = k

  -- Wherever walks end.
  pub delivery_at : (objects : List Oid) (es : Entries) (c : Client m) (from : NodeId) (rid : ℕ) (y : Msg) → ClientTold c → ClientHears c from rid (reply y) → EachDelivery m objects es AtTail c c.work from rid (reply y)
  delivery_at objects es c from rid y k g = each_delivered m objects es At AtTail way (λ d w i. i) c from rid (reply y) (feeds_at c from rid y k g) (newer_at c from rid y k g)
