-- Through each of a client's turns: the walks of a command that forgets begin at the log's beginning.
use Rattle.std.proofs.Common.{◌≡◌, ℕ, List, [], refl, sym, ap, ◌∙◌, subst, Some, None, Option}
use Rattle.tg_base.specs.declared.ids.NodeId.{NodeId}
use Rattle.tg_base.specs.declared.ids.Oid.{Oid}
use Rattle.tg_base.specs.declared.msg.Msg.{Msg}
use Rattle.tg_kind.specs.Meaning.{Meaning}
use Rattle.tg_model.specs.declared.command.Command.TheVariants as cmd
use Rattle.tg_model.specs.Kinds.{CommandOf}
use Rattle.tg_protocol.specs.Replies.{Reply, reply}
use Rattle.tg_protocol.specs.Appending.{append_start}
use Rattle.tg_protocol.specs.Syncing.{sync_start}
use Rattle.tg_protocol.specs.Views.{Entries}
use Rattle.tg_protocol.specs.Clients.{Task, Walking, Hand, Work, Client}
use Rattle.tg_protocol.specs.Answers.{Moved, moved, appends, syncs}
use Rattle.tg_protocol.specs.ClientSteps as step
use Rattle.tg_protocol.specs.ClientSteps.{lo_for, task_in, client_command, client_deliver, client_tick}
use Rattle.tg_law_layouts.proofs.Moves.Turns.{not_busy}
use Rattle.tg_law_replies.specs.Replies.Steps.{EachDelivery}
use Rattle.tg_law_replies.proofs.Replies.Reached.{each_delivered}
use Rattle.tg_law_steps.proofs.Places.{Place, Feeds, Newer, OnWalk, Over, Walks}
use Rattle.tg_law_steps.proofs.Ways.{Way, Confirms, Settles, StartsOver, AllWalked, HasPlayed}
use Rattle.tg_law_steps.proofs.Ends.{End, GoesOn, WalkGoes, WalkBegins, LearnsNewer, WalkLearns}
use Rattle.tg_law_steps.proofs.Takes.{Taken, SaidAtOnce, said_work}
use Rattle.tg_law_steps.proofs.Along.{delivered, commanded, over_walks}

module _ (m : Meaning) where
  abbrev pub Whole : Work m → Type 0
  Whole w = (o : Oid) (mark : ℕ) → w.command ≡ cmd.Forget o mark → w.lo ≡ 0

  -- while it walks
  abbrev pub TaskWhole : Work m → Task m → Type 0
  TaskWhole w (Walking k os) = Whole w
  TaskWhole w t = Unit {0}

  abbrev pub WorkWhole : Option (Work m) → Type 0
  WorkWhole None = Unit {0}
  WorkWhole (Some w) = TaskWhole w (task_in m w.hand)

  abbrev pub ClientWhole : Client m → Type 0
  ClientWhole c = WorkWhole c.work

  abbrev Fine : Moved m → Type 0
  Fine x = WorkWhole x.now.work

  -- it walks from 0
  from_start : (c : Client m) (x : CommandOf m) (o : Oid) (mark : ℕ) → x ≡ cmd.Forget o mark → lo_for m c x ≡ 0
  from_start c x o mark e = ap (λ (y : CommandOf m). lo_for m c y) e

  idle_fine : (x : Moved m) → x.now.work ≡ None → Fine x
  idle_fine x e = subst WorkWhole (sym e) tt

  -- Along a turn.

  abbrev pub Fits : Client m → Work m → Place m → Type 0
  Fits c w (Feeds t n rid x) = TaskWhole w t
  Fits c w (Newer t n rid q) = TaskWhole w t
  Fits c w (OnWalk o os to) = Whole w
  Fits c w (Over o os x g) = Whole w
  Fits c w (Walks os) = Whole w
  Fits c w p = Unit {0}

  pub way : (c : Client m) (w : Work m) (p : Place m) (d : Client m) (v : Work m) (q : Place m) → Way m c w p d v q → Fits c w p → Fits d v q
  way c w _ _ _ _ (Confirms bs t ls) h = λ o mark e. from_start c w.command o mark e
  way c w _ _ _ _ (Settles bs t ls s) h = λ o mark e. from_start c w.command o mark e
  way c w _ _ _ _ (StartsOver o os x b e f k) h = λ o mark e. refl
  way c w _ _ _ _ x h = h

  all_walked : (c : Client m) (w : Work m) (d : Client m) (q : Place m) → AllWalked m c w d q → Fits c w (Walks []) → Fits d w q
  all_walked c w _ _ (HasPlayed k) h = tt
  all_walked c w _ _ x h = tt

  ends_fine : (c : Client m) (w : Work m) (p : Place m) (x : Moved m) → End m c w p x → Fits c w p → Fine x
  unfolding appends append_start syncs sync_start
  ends_fine c w _ _ (GoesOn _ _ _ (WalkGoes o os x)) h = h
  ends_fine c w _ _ (GoesOn _ _ _ (WalkBegins o os x e)) h = h
  ends_fine c w _ _ (GoesOn _ _ _ x) h = tt
  ends_fine c w _ _ (LearnsNewer _ (WalkLearns o os x)) h = h
  ends_fine c w _ _ (LearnsNewer _ x) h = tt
  ends_fine c w _ _ x h = tt

  takes_fine : (c : Client m) (x : CommandOf m) → c.work ≡ None → (y : Moved m) → Taken m c x y → Fine y
  unfolding appends append_start syncs sync_start
  takes_fine c _ e _ (SaidAtOnce x d ns s) = idle_fine (moved m d ns) (said_work m c x d ns s ∙ e)
  takes_fine c _ e _ x = tt

  -- Turns.

  pub command_fine : (c : Client m) (x : CommandOf m) → ClientWhole c → ClientWhole (client_command m c x).now
  unfolding client_command
  command_fine c x k = commanded m Fine c x (λ why e. k) (λ e. takes_fine c x (not_busy m c x e))

  pub deliver_fine : (c : Client m) (from : NodeId) (rid : ℕ) (y : Msg) → ClientWhole c → ClientWhole (client_deliver m c from rid y).now
  unfolding client_deliver
  deliver_fine c from rid y k =
      delivered m Fits Fine ends_fine way (over_walks m Fits Fine ends_fine all_walked) c from rid (reply y) k
      (λ w t has doing a other. subst (λ (d : Hand m). TaskWhole w (task_in m d)) doing (subst WorkWhole has k)) (λ w q has is a. subst WorkWhole has k)

  pub tick_fine : (c : Client m) → ClientWhole c → ClientWhole (client_tick m c).now
  unfolding client_tick
  tick_fine c k = by c.work k
    where
      by : (w : Option (Work m)) → WorkWhole w → ClientWhole (step.tick_by m c w).now
      by None f = k
      by (Some w) f = k

-- So it is wherever a delivery comes to the end of a command's walks.
module _ (m : Meaning) (objects : List Oid) (es : Entries) where
  pub delivery_at : (c : Client m) (from : NodeId) (rid : ℕ) (x : Reply) → ClientWhole m c → EachDelivery m objects es (λ d w. Whole m w) c c.work from rid x
  delivery_at c from rid x k =
      each_delivered m objects es (Fits m) (λ d w. Whole m w) (way m) (λ d w h. h) c from rid x
      (λ w t has doing a other. subst (λ (d : Hand m). TaskWhole m w (task_in m d)) doing (subst (WorkWhole m) has k)) (λ w q has is a. subst (WorkWhole m) has k)
