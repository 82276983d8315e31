-- Through each of a client's turns: what it asks units to trim has B, where the floor that it tells at a trim has.
use Rattle.std.proofs.Common.{◌≡◌, ℕ, ◌<◌, ◌≤◌, List, [], Bool, true, refl, sym, ◌∙◌, subst, arith, Some, None, Option}
use Rattle.std.specs.Prelude.{nat_lt, ◌&&◌}
use Rattle.std.proofs.lemmas.Bool.Decides.{nat_tests}
use Rattle.tg_base.specs.Layouts.{Layout}
use Rattle.tg_base.specs.declared.ids.NodeId.{NodeId}
use Rattle.tg_base.specs.declared.ids.Oid.{Oid}
use Rattle.tg_base.specs.declared.msg.Msg.{Msg}
use Rattle.tg_kind.specs.Meaning.{Meaning}
use Rattle.tg_model.specs.declared.command.Command.TheVariants as cmd
use Rattle.tg_model.specs.declared.play.PlayEnd.TheVariants.{Played}
use Rattle.tg_model.specs.Kinds.{CommandOf}
use Rattle.tg_base.specs.Orders.{node_eq}
use Rattle.tg_protocol.specs.Words.{directory, layout_id}
use Rattle.tg_protocol.specs.Requests.{awaits}
use Rattle.tg_protocol.specs.Replies.{Reply, reply}
use Rattle.tg_protocol.specs.Appending.{append_start}
use Rattle.tg_protocol.specs.Syncing.{sync_start}
use Rattle.tg_protocol.specs.Views.{Entries, state_of}
use Rattle.tg_protocol.specs.Clients.{Task, Syncing, Walking, Appending, Trimming, Copying', Reconfiguring, Hand, Doing, Learning, Work, Client, refusal}
use Rattle.tg_protocol.specs.Answers.{Moved, appends, syncs, floor_of}
use Rattle.tg_protocol.specs.ClientSteps.{task_in, task_awaited, refused_or, feed}
use Rattle.tg_law_layouts.proofs.Moves.Besides.{OnlyLearns, none_learns, sync_besides, sync_again_besides, append_besides, append_again_besides}
use Rattle.tg_law_layouts.proofs.Moves.Turns.{not_busy}
use Rattle.tg_law_replies.specs.Replies.Steps.{EachDelivery}
use Rattle.tg_law_headline.proofs.Trims.Machines.{TrimNext, trim_starts, trims_ok, CopyOk, CopyNext, CopyHears, copy_ok, start_copies}
use Rattle.tg_law_replies.proofs.Replies.Ways.{EachAt, each_way, each_fed, each_newer}
use Rattle.tg_law_steps.proofs.Places.{Place, Feeds, Newer, OnSync, OnAppend, OnTrims, OnCopy, Walks, Plays}
use Rattle.tg_law_steps.proofs.Ways.{Way, FeedsSync, FeedsAppend, FeedsTrims, FeedsCopy, NewerSync, NewerAppend, NewerTrims, NewerCopy, own_play, AllWalked, HasPlayed}
use Rattle.tg_law_steps.proofs.Ends.{SyncGoes, AppendGoes, TrimsGo, TrimsBegin, CopyGoes, TrimsLearn, End, GoesOn, LearnsNewer}
use Rattle.tg_law_steps.proofs.Takes.{Taken, SaidAtOnce, said_work}
use Rattle.tg_law_steps.proofs.Along.{delivered, commanded, over_walks}

module _ (m : Meaning) (B : ℕ → ℕ → Type 0) (grows : (e f b : ℕ) → e ≤ f → B e b → B f b) (objects : List Oid) (es : Entries) where
  abbrev pub TaskOk : Layout → Task m → Type 0
  TaskOk p (Trimming t) = B p.epoch t.below
  TaskOk p (Copying' c) = CopyOk B p.epoch c.work
  TaskOk p t = Unit {0}

  -- while it learns a newer layout
  abbrev pub LearnOk : Layout → Task m → Type 0
  LearnOk p (Trimming t) = B p.epoch t.below
  LearnOk p t = Unit {0}

  abbrev pub HandOk : Layout → Hand m → Type 0
  HandOk p (Doing t) = TaskOk p t
  HandOk p (Learning ws t) = LearnOk p t

  abbrev pub WorkOk : Layout → Option (Work m) → Type 0
  WorkOk p None = Unit {0}
  WorkOk p (Some w) = HandOk p w.hand

  -- the floor that a trim's client tells
  abbrev pub FloorOk : Client m → Work m → Type 0
  FloorOk c w = (t : ℕ) → w.command ≡ cmd.Trim → (own_play m c w).came ≡ Played t → B c.stand.epoch (floor_of m (state_of m (own_play m c w).view directory))

  learn_of : (p : Layout) (h : Hand m) → HandOk p h → LearnOk p (task_in m h)
  learn_of p (Doing (Walking k os)) x = tt
  learn_of p (Doing (Syncing s)) x = tt
  learn_of p (Doing (Appending a y)) x = tt
  learn_of p (Doing (Trimming t)) x = x
  learn_of p (Doing (Copying' c)) x = tt
  learn_of p (Doing (Reconfiguring r)) x = tt
  learn_of p (Learning ws t) x = x

  pub record Fine (x : Moved m) : Type 0 where
    pub ok : WorkOk x.now.stand x.now.work
    pub besides : OnlyLearns x.now.stand x.besides

  -- An awaited answer.

  -- what it has to tell
  abbrev pub TaskHears : Client m → Task m → ℕ → Reply → Type 0
  TaskHears c (Copying' y) n x = CopyHears B c.stand y n x c.next
  TaskHears c t n x = Unit {0}

  abbrev pub ClientOk : Client m → Type 0
  ClientOk c = WorkOk c.stand c.work

  -- what a client that waits for an answer hears
  abbrev pub ClientHears : Client m → NodeId → ℕ → Reply → Type 0
  ClientHears c from rid x = (w : Work m) (t : Task m) → c.work ≡ Some w → w.hand ≡ Doing t → awaits (task_awaited m c.stand t) from rid ≡ true → TaskHears c t from.num x

  -- Along a turn.

  abbrev Rest : Client m → Work m → Place m → Type 0
  Rest c w (Feeds t n rid x) = TaskOk c.stand t × TaskHears c t n x
  Rest c w (Newer t n rid q) = LearnOk c.stand t × (c.stand.epoch < q.epoch)
  Rest c w (OnSync bs to) = OnlyLearns c.stand bs
  Rest c w (OnAppend y bs to) = OnlyLearns c.stand bs
  Rest c w (OnTrims b to) = TrimNext B c.stand.epoch to
  Rest c w (OnCopy x to) = CopyNext B c.stand.epoch to
  Rest c w (Plays es p) = (t : ℕ) → w.command ≡ cmd.Trim → p.came ≡ Played t → B c.stand.epoch (floor_of m (state_of m p.view directory))
  Rest c w p = Unit {0}

  abbrev At' : Client m → Work m → Place m → Type 0
  At' c w p = Rest c w p × EachAt m objects es FloorOk c w p

  rest_way : (c : Client m) (w : Work m) (p : Place m) (d : Client m) (v : Work m) (q : Place m) → Way m c w p d v q → Rest c w p → Rest d v q
  rest_way c w _ _ _ _ (FeedsSync s n rid x) r = sync_besides c.stand s s.work n x c.next
  rest_way c w _ _ _ _ (FeedsAppend a y n rid x) r = append_besides c.stand a a.token a.work n x c.next refl
  rest_way c w _ _ _ _ (FeedsTrims t n rid x) r = trims_ok B c.stand t n x c.next r.0
  rest_way c w _ _ _ _ (FeedsCopy y n rid x) r = copy_ok B c.stand y n x c.next r.1 r.0
  rest_way c w _ _ _ _ (NewerSync s n rid q) r = sync_again_besides q s c.next
  rest_way c w _ _ _ _ (NewerAppend a y n rid q) r = append_again_besides q a c.next
  rest_way c w _ _ _ _ (NewerTrims t n rid q) r = trim_starts B q t.below c.next (grows c.stand.epoch q.epoch t.below (let less = r.1 in omega (arith, less)) r.0)
  rest_way c w _ _ _ _ (NewerCopy x n rid q e) r = start_copies B q.epoch x.unit x.range x.stripe c.next
  rest_way c w _ _ _ _ x r = tt

  way : (c : Client m) (w : Work m) (p : Place m) (d : Client m) (v : Work m) (q : Place m) → Way m c w p d v q → At' c w p → At' d v q
  way c w p d v q x k = (rest_way c w p d v q x k.0, each_way m objects es FloorOk c w p d v q x k.1)

  walked_way : (c : Client m) (w : Work m) (d : Client m) (q : Place m) → AllWalked m c w d q → At' c w (Walks []) → At' d w q
  walked_way c w _ _ (HasPlayed of) (r, f) = (f, tt)
  walked_way c w _ _ x (r, f) = (tt, tt)

  ends_fine : (c : Client m) (w : Work m) (p : Place m) (x : Moved m) → End m c w p x → At' c w p → Fine x
  unfolding appends append_start syncs sync_start
  ends_fine c w _ _ (GoesOn _ _ _ (SyncGoes bs s)) (r, e) = record { ok = tt; besides = r }
  ends_fine c w _ _ (GoesOn _ _ _ (AppendGoes y bs a)) (r, e) = record { ok = tt; besides = r }
  ends_fine c w _ _ (GoesOn _ _ _ (TrimsGo b t)) (r, e) = record { ok = r; besides = none_learns _ }
  ends_fine c w _ _ (GoesOn _ _ _ (TrimsBegin es p upto of came z)) (r, e) = record { ok = r upto of came; besides = none_learns _ }
  ends_fine c w _ _ (GoesOn _ _ _ (CopyGoes x y)) (r, e) = record { ok = r; besides = none_learns _ }
  ends_fine c w _ _ (GoesOn _ _ _ x) (r, e) = record { ok = tt; besides = none_learns _ }
  ends_fine c w _ _ (LearnsNewer _ (TrimsLearn b t)) (r, e) = record { ok = r; besides = none_learns _ }
  ends_fine c w _ _ (LearnsNewer _ x) (r, e) = record { ok = tt; besides = none_learns _ }
  ends_fine c w _ _ x k = record { ok = tt; besides = none_learns _ }

  takes_fine : (c : Client m) (x : CommandOf m) → c.work ≡ None → (y : Moved m) → Taken m c x y → Fine y
  unfolding appends append_start syncs sync_start
  takes_fine c _ free _ (SaidAtOnce x d ns s) = record { ok = subst (WorkOk d.stand) (sym (said_work m c x d ns s ∙ free)) tt; besides = none_learns _ }
  takes_fine c _ free _ x = record { ok = tt; besides = none_learns _ }

  -- Turns.

  pub command_fine : (c : Client m) (x : CommandOf m) → ClientOk c → Fine (refused_or m c x (refusal m c x))
  command_fine c x k = commanded m Fine c x (λ why e. record { ok = k; besides = none_learns _ }) (λ e. takes_fine c x (not_busy m c x e))

  is_newer : (c : Client m) (q : Layout) (a : Bool) → (a && nat_lt c.stand.epoch q.epoch) ≡ true → c.stand.epoch < q.epoch
  is_newer c q a e = grind (arith, nat_tests, e)

  pub deliver_fine : (c : Client m) (from : NodeId) (rid : ℕ) (y : Msg) → ClientOk c → ClientHears c from rid (reply y) → EachDelivery m objects es FloorOk c c.work from rid (reply y) → Fine (feed m c c.work from rid (reply y))
  deliver_fine c from rid y k g f = delivered m At' Fine ends_fine way (over_walks m At' Fine ends_fine walked_way) c from rid (reply y) (record { ok = k; besides = none_learns _ })
      (λ w t has doing a other. ((subst (HandOk c.stand) doing (subst (WorkOk c.stand) has k), g w t has doing a), each_fed m objects es FloorOk c from rid (reply y) f w t has doing a other))
      (λ w q has is a. ((learn_of c.stand w.hand (subst (WorkOk c.stand) has k), is_newer c q (node_eq from (layout_id from.num)) a), each_newer m objects es FloorOk c from rid (reply y) f w q has is a))
