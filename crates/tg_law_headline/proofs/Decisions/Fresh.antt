-- A step of a client that has no append in hand: what it drafts then, if it decides, is for a record that it has found.
use Rattle.std.proofs.Common.{◌∙◌, ◌≡◌, ℕ, List, [], ◌∷◌, sym, subst, Some, None, Option}
use Rattle.tg_base.specs.declared.ids.NodeId.{NodeId}
use Rattle.tg_base.specs.declared.ids.Oid.{Oid}
use Rattle.tg_base.specs.declared.msg.Msg.{Msg}
use Rattle.tg_entry.specs.declared.entry.Entry.{Entry}
use Rattle.tg_kind.specs.Meaning.{Meaning}
use Rattle.tg_model.specs.declared.command.Command.TheVariants as cmd
use Rattle.tg_model.specs.Kinds.{CommandOf}
use Rattle.tg_protocol.specs.Replies.{reply}
use Rattle.tg_protocol.specs.Syncing.{sync_start}
use Rattle.tg_protocol.specs.Transactions.{commit_record}
use Rattle.tg_protocol.specs.Views.{Entries}
use Rattle.tg_protocol.specs.Clients.{Decides, Task, Syncing, Walking, Appending, Trimming, Copying', Reconfiguring, Hand, Work, Client, all_entries}
use Rattle.tg_protocol.specs.Answers.{Moved, moved}
use Rattle.tg_protocol.specs.ClientSteps as step
use Rattle.tg_protocol.specs.ClientSteps.{task_in, new_work, client_command, client_deliver, client_tick}
use Rattle.tg_law_layouts.proofs.Moves.Turns.{not_busy}
use Rattle.tg_law_replies.specs.Replies.Steps.{EachDelivery}
use Rattle.tg_law_headline.proofs.Decisions.Drawing.{TaskDrawn, WorkDrawn, AreOf, Good, appended, decides}
use Rattle.tg_model.specs.declared.trace.What.TheVariants as told
use Rattle.tg_protocol.specs.Checkpoints.{checkpoint}
use Rattle.tg_protocol.specs.Answers.{note, syncs}
use Rattle.tg_law_steps.proofs.Places.{Place, Feeds, Newer, OnAppend, Walks, Plays, Rescues as Rescues'}
use Rattle.tg_law_steps.proofs.Ways.{Way, FeedsAppend, NewerAppend, AllWalked, HasPlayed, LooksBack, IsRescue}
use Rattle.tg_law_steps.proofs.Ends as end
use Rattle.tg_law_steps.proofs.Takes.{Taken, SaidAtOnce, AppendsRecord, said_work}
use Rattle.tg_law_steps.proofs.Along.{commanded}
use Rattle.tg_law_replies.proofs.Replies.Each.{delivered}

module _ (m : Meaning) where
  -- no append is in hand
  abbrev pub NoAppend : Task m → Type 0
  NoAppend (Appending a y) = ⊥
  NoAppend t = Unit {0}

  abbrev pub NoneInHand : Option (Work m) → Type 0
  NoneInHand None = Unit {0}
  NoneInHand (Some w) = NoAppend (task_in m w.hand)

-- What is to be known of a commit record, and what a client that has walked its streams has, which gives it of each record that it
-- has found.
module _ (m : Meaning) (Of : ℕ → Entry → Type 0) (P : Client m → Work m → Type 0) (found : (c : Client m) (w : Work m) → P c w → (os : List Oid) → AreOf m Of (all_entries m c w os)) (objects : List Oid) (es : Entries) where
  abbrev Fine : Moved m → Type 0
  Fine x = Good m Of x

  none_fine : (w : Option (Work m)) → NoneInHand m w → WorkDrawn m Of w
  none_fine None k = tt
  none_fine (Some w) k = by (task_in m w.hand) k
    where
      by : (t : Task m) → NoAppend m t → TaskDrawn m Of t
      by (Appending a y) k = absurd k
      by (Syncing s) k = tt
      by (Walking j os) k = tt
      by (Trimming t) k = tt
      by (Copying' x) k = tt
      by (Reconfiguring r) k = tt

  idle_fine : (x : Moved m) → x.now.work ≡ None → Fine x
  idle_fine x e = subst (WorkDrawn m Of) (sym e) tt

  -- Along a turn.

  abbrev Fits : Client m → Work m → Place m → Type 0
  Fits c w (Feeds t n rid x) = NoAppend m t
  Fits c w (Newer t n rid q) = NoAppend m t
  Fits c w (OnAppend y bs to) = ⊥
  Fits c w (Plays own p) = AreOf m Of own
  Fits c w (Rescues' at) = AreOf m Of (all_entries m c w w.oids)
  Fits c w p = Unit {0}

  way : (c : Client m) (w : Work m) (p : Place m) (d : Client m) (v : Work m) (q : Place m) → Way m c w p d v q → Fits c w p → Fits d v q
  way c w _ _ _ _ (FeedsAppend a y n rid x) h = h
  way c w _ _ _ _ (NewerAppend a y n rid q) h = h
  way c w _ _ _ _ x h = tt

  all_walked : (c : Client m) (w : Work m) (d : Client m) (q : Place m) → AllWalked m c w d q → Fits c w (Walks []) → P c w → Fits d w q
  all_walked c w _ _ (HasPlayed k) h f = found c w f c.hosted
  all_walked c w _ _ (LooksBack at o q of) h f = tt
  all_walked c w _ _ (IsRescue at of) h f = found c w f w.oids

  ends_fine : (c : Client m) (w : Work m) (p : Place m) (x : Moved m) → end.End m c w p x → Fits c w p → Fine x
  unfolding syncs sync_start checkpoint
  ends_fine c w _ _ (end.GoesOn _ _ _ (end.AppendGoes y bs a)) h = absurd h
  ends_fine c w _ _ (end.GoesOn _ _ _ x) h = tt
  ends_fine c w _ _ (end.LearnsNewer _ (end.AppendLearns y bs a)) h = absurd h
  ends_fine c w _ _ (end.LearnsNewer _ x) h = tt
  ends_fine c w _ _ (end.Appends _ _ _ _ (end.EndDecides es p upto e so what of a i j l)) h = decides m Of c w e w.at so (Decides what) (h w.at e i)
  ends_fine c w _ _ (end.Appends _ _ _ _ (end.DecideDecides es p at e d so of t k i v s l)) h = decides m Of c w e at so _ (h at e i)
  ends_fine c w _ _ (end.Appends _ _ _ _ (end.RescueDecides at so e k i)) h = decides m Of c w e at so _ (h at e i)
  ends_fine c w _ _ (end.Appends d e y ns (end.SaveBegins es p upto o of a l)) h = appended m Of d w e y ns (λ q so is. absurd cc)
  ends_fine c w _ _ (end.Appends d e y ns (end.MarkBegins es p upto o n of a f)) h = appended m Of d w e y ns (λ q so is. absurd cc)
  ends_fine c w _ _ x h = tt

  takes_fine : (c : Client m) (x : CommandOf m) → c.work ≡ None → (y : Moved m) → Taken m c x y → Fine y
  unfolding syncs sync_start commit_record
  takes_fine c _ e _ (SaidAtOnce x d ns s) = idle_fine (moved m d ns) (said_work m c x d ns s ∙ e)
  takes_fine c _ e _ (AppendsRecord t y is k for) = appended m Of c (new_work m cmd.End) (commit_record t c.num) y (note m t.number told.End ∷ []) (λ q so i. absurd cc)
  takes_fine c _ e _ x = tt

  -- Turns.

  pub command_fine : (c : Client m) (x : CommandOf m) → NoneInHand m c.work → WorkDrawn m Of (client_command m c x).now.work
  unfolding client_command
  command_fine c x k = commanded m Fine c x (λ why e. none_fine c.work k) (λ e. takes_fine c x (not_busy m c x e))

  pub deliver_fine : (c : Client m) (from : NodeId) (rid : ℕ) (y : Msg) → NoneInHand m c.work → EachDelivery m objects es P c c.work from rid (reply y) → WorkDrawn m Of (client_deliver m c from rid y).now.work
  unfolding client_deliver
  deliver_fine c from rid y k f =
      delivered m objects es P Fits Fine ends_fine way all_walked c from rid (reply y) (none_fine c.work k)
      (λ w t has doing a other. subst (λ (d : Hand m). NoAppend m (task_in m d)) doing (subst (NoneInHand m) has k)) (λ w q has is new. subst (NoneInHand m) has k) f

  pub tick_fine : (c : Client m) → NoneInHand m c.work → WorkDrawn m Of (client_tick m c).now.work
  unfolding client_tick
  tick_fine c k = by c.work k
    where
      by : (w : Option (Work m)) → NoneInHand m w → WorkDrawn m Of (step.tick_by m c w).now.work
      by None f = none_fine c.work k
      by (Some w) f = none_fine c.work k
