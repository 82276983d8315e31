-- Through each of a client's turns: what it has in hand suits its command.
use Rattle.std.proofs.Common.{◌≡◌, ℕ, [], Bool, true, refl, sym, ap, ◌∙◌, subst, Option, Some, None}
use Rattle.tg_base.specs.Clusters.{Header}
use Rattle.tg_base.specs.declared.ids.NodeId.{NodeId}
use Rattle.tg_base.specs.declared.msg.Msg.{Msg}
use Rattle.tg_kind.specs.Meaning.{Meaning}
use Rattle.tg_model.specs.declared.command.Command.TheVariants as cmd
use Rattle.tg_entry.specs.declared.entry.Entry.{Entry}
use Rattle.tg_model.specs.Kinds.{CommandOf, WhatOf}
use Rattle.tg_protocol.specs.Views.{Entries, View}
use Rattle.tg_protocol.specs.Words.{numbers}
use Rattle.tg_protocol.specs.Replies.{reply}
use Rattle.tg_protocol.specs.Appending.{append_start}
use Rattle.tg_protocol.specs.Syncing.{sync_start}
use Rattle.tg_protocol.specs.Clients.{Purpose, Writes, Judged, Decides, Rescues as RescuesWith, Saves, Marks, Task, Syncing, Walking, Appending, Trimming, Copying', Reconfiguring, Hand, Doing, Work, Client, new_client}
use Rattle.tg_protocol.specs.Answers.{Moved, appends, syncs}
use Rattle.tg_protocol.specs.ClientSteps.{ClientTurn, task_in, client_command, client_deliver, client_tick}
use Rattle.tg_protocol.specs.Worlds.{World, start}
use Rattle.tg_protocol.specs.Runs.{Moves, Reaches}
use Rattle.tg_protocol.specs.Finishing.{NoReconf}
use Rattle.tg_law_layouts.specs.Moves.Configs.{Config, config, client_in}
use Rattle.tg_law_layouts.proofs.Moves.Lists.{at_set, at_map}
use Rattle.tg_law_layouts.proofs.Moves.Moves.{ClientInput, Commanded, Hears', Ticks', Cases, run_keeps}
use Rattle.tg_law_layouts.proofs.Moves.Turns.{not_busy}
use Rattle.tg_law_steps.proofs.Places.{Place, Feeds, Newer, OnAppend, OnTrims, OnCopy, OnReconf, Walks}
use Rattle.tg_law_steps.proofs.Ways.{Way, FeedsSync, AllWalked, HasPlayed}
use Rattle.tg_law_steps.proofs.Ends as end
use Rattle.tg_law_steps.proofs.Takes.{Taken, SaidAtOnce, SyncsFirst, AppendsRecord, ReconfBegins, CopyBegins, IsWalked, WalksAsk, WalksFate, WalksDecide, WalksCheckpoint, WalksForget, WalksTrim, WalksAskAt, WalksRescue, ForWrites, ForJudged, said_work}
use Rattle.tg_law_steps.proofs.Along.{delivered, commanded, ticked, over_walks}
use Rattle.tg_law_finish.specs.Finish.Commands.{plays}
use Rattle.tg_law_finish.specs.Finish.Laws.{IsReply}
use Rattle.tg_law_finish.proofs.Finish.Telling.{SoundPurpose, Sound}

module _ (m : Meaning) where
  abbrev pub IsCopy : CommandOf m → Type 0
  IsCopy (cmd.Copy u r s) = Unit {0}
  IsCopy x = ⊥

  abbrev pub IsReconf : CommandOf m → Type 0
  IsReconf (cmd.Reconf c) = Unit {0}
  IsReconf x = ⊥

  -- the record of a transaction is of `end` alone
  abbrev pub SuitsPurpose : CommandOf m → Purpose m → Type 0
  SuitsPurpose x Writes = x ≡ cmd.End
  SuitsPurpose x Judged = x ≡ cmd.End
  SuitsPurpose x (Decides what) = (plays m x ≡ true) × IsReply m what
  SuitsPurpose x (RescuesWith what) = (plays m x ≡ true) × IsReply m what
  SuitsPurpose x (Saves o upto) = plays m x ≡ true
  SuitsPurpose x (Marks n o mark) = plays m x ≡ true

  abbrev pub Suits : CommandOf m → Task m → Type 0
  Suits x (Syncing s) = plays m x ≡ true
  Suits x (Walking k os) = plays m x ≡ true
  Suits x (Appending a y) = SuitsPurpose x y
  Suits x (Trimming t) = x ≡ cmd.Trim
  Suits x (Copying' y) = IsCopy x
  Suits x (Reconfiguring r) = IsReconf x

  abbrev pub WorkSuits : Option (Work m) → Type 0
  WorkSuits None = Unit {0}
  WorkSuits (Some w) = Suits w.command (task_in m w.hand)

  abbrev Good : Moved m → Type 0
  Good x = WorkSuits x.now.work

  pub end_plays : (x : CommandOf m) → x ≡ cmd.End → plays m x ≡ true
  unfolding plays
  end_plays x e = ap (λ y. plays m y) e

  pub purpose_plays : (x : CommandOf m) (y : Purpose m) → SuitsPurpose x y → plays m x ≡ true
  purpose_plays x Writes k = end_plays x k
  purpose_plays x Judged k = end_plays x k
  purpose_plays x (Decides what) k = k.0
  purpose_plays x (RescuesWith what) k = k.0
  purpose_plays x (Saves o upto) k = k
  purpose_plays x (Marks n o mark) k = k

  pub purpose_replies : (x : CommandOf m) (y : Purpose m) → SuitsPurpose x y → SoundPurpose m (IsReply m) y
  purpose_replies x Writes k = tt
  purpose_replies x Judged k = tt
  purpose_replies x (Decides what) k = k.1
  purpose_replies x (RescuesWith what) k = k.1
  purpose_replies x (Saves o upto) k = tt
  purpose_replies x (Marks n o mark) k = tt

  pub task_replies : (x : CommandOf m) (t : Task m) → Suits x t → Sound m (IsReply m) t
  task_replies x (Appending a y) k = purpose_replies x y k
  task_replies x (Syncing s) k = tt
  task_replies x (Walking y os) k = tt
  task_replies x (Trimming y) k = tt
  task_replies x (Copying' y) k = tt
  task_replies x (Reconfiguring y) k = tt

  -- no reconfiguration is for it
  pub no_reconf : (x : CommandOf m) → NoReconf m x → IsReconf x → ⊥
  no_reconf (cmd.Reconf y) e k = e
  no_reconf x e k = k

  -- Along a turn.

  abbrev Here : Client m → Work m → Place m → Type 0
  Here c w (Feeds t n rid x) = Suits w.command t
  Here c w (Newer t n rid q) = Suits w.command t
  Here c w (OnAppend y bs to) = SuitsPurpose w.command y
  Here c w (OnTrims b to) = w.command ≡ cmd.Trim
  Here c w (OnCopy x to) = IsCopy w.command
  Here c w (OnReconf to) = IsReconf w.command
  Here c w p = plays m w.command ≡ true

  way : (c : Client m) (w : Work m) (p : Place m) (d : Client m) (v : Work m) (q : Place m) → Way m c w p d v q → Here c w p → Here d v q
  way c w _ _ _ _ (FeedsSync s n rid x) k = k
  way c w _ _ _ _ x k = k

  walked_way : (c : Client m) (w : Work m) (d : Client m) (q : Place m) → AllWalked m c w d q → Here c w (Walks []) → Here d w q
  walked_way c w _ _ (HasPlayed of) k = k
  walked_way c w _ _ x k = k

  judged : (es : Entries) (v : View m) (p : ℕ) (e : Entry) (so : Bool) (what : WhatOf m) → end.Judges m es v p e so what → IsReply m what
  judged es v p e _ _ (end.Commit' i) = tt
  judged es v p e _ _ (end.Abort' y i j k) = tt

  ends : (c : Client m) (w : Work m) (p : Place m) (x : Moved m) → end.End m c w p x → Here c w p → Good x
  unfolding appends append_start syncs sync_start
  ends c w _ _ (end.GoesOn _ _ _ (end.TrimsBegin es p upto of a b)) k = of
  ends c w _ _ (end.GoesOn _ _ _ x) k = k
  ends c w _ _ (end.LearnsNewer _ (end.SyncLearns bs s)) k = k
  ends c w _ _ (end.LearnsNewer _ x) k = k
  ends c w _ _ (end.Syncs _ _ _ (end.JudgedAt bs p d)) k = end_plays w.command k
  ends c w _ _ (end.Syncs _ _ _ x) k = k
  ends c w _ _ (end.Appends _ _ _ _ (end.EndDecides es p upto e so what of a i j l)) k = (k, judged es p.view w.at e so what j)
  ends c w _ _ (end.Appends _ _ _ _ (end.DecideDecides es p at e d so of t l i v s f)) k = (k, tt)
  ends c w _ _ (end.Appends _ _ _ _ (end.RescueDecides at so e i f)) k = (k, tt)
  ends c w _ _ (end.Appends _ _ _ _ x) k = k
  ends c w _ _ x k = tt

  walks_play : (c : Client m) (x : CommandOf m) → IsWalked m c x → plays m x ≡ true
  unfolding plays
  walks_play c _ (WalksAsk o q t a e) = refl
  walks_play c _ (WalksFate at) = refl
  walks_play c _ (WalksDecide at) = refl
  walks_play c _ (WalksCheckpoint o) = refl
  walks_play c _ (WalksForget o n) = refl
  walks_play c _ WalksTrim = refl
  walks_play c _ (WalksAskAt at o q) = refl
  walks_play c _ (WalksRescue at) = refl

  takes : (c : Client m) (x : CommandOf m) → c.work ≡ None → (y : Moved m) → Taken m c x y → Good y
  unfolding appends append_start syncs sync_start
  takes c _ free _ (SaidAtOnce x d ns s) = subst WorkSuits (sym (said_work m c x d ns s ∙ free)) tt
  takes c _ free _ (SyncsFirst x is) = walks_play c x is
  takes c _ free _ (AppendsRecord t _ has some (ForWrites e)) = refl
  takes c _ free _ (AppendsRecord t _ has some (ForJudged e)) = refl
  takes c _ free _ (ReconfBegins x n r e) = tt
  takes c _ free _ (CopyBegins u r s) = tt

  -- The turns.

  abbrev AtWork : Client m → Type 0
  AtWork c = WorkSuits c.work

  suits_in : (w : Work m) (t : Task m) → w.hand ≡ Doing t → Suits w.command (task_in m w.hand) → Suits w.command t
  suits_in w t doing k = subst (λ (h : Hand m). Suits w.command (task_in m h)) doing k

  commands : (c : Client m) (x : CommandOf m) → AtWork c → AtWork (client_command m c x).now
  unfolding client_command
  commands c x k = commanded m Good c x (λ why e. k) (λ e. takes c x (not_busy m c x e))

  hears : (c : Client m) (from : NodeId) (rid : ℕ) (y : Msg) → AtWork c → AtWork (client_deliver m c from rid y).now
  unfolding client_deliver
  hears c from rid y k = delivered m Here Good ends way (over_walks m Here Good ends walked_way) c from rid (reply y) k
      (λ w t has doing a other. suits_in w t doing (subst WorkSuits has k))
      (λ w q has is a. subst WorkSuits has k)

  ticks : (c : Client m) → AtWork c → AtWork (client_tick m c).now
  ticks c k = ticked m (λ (t : ClientTurn m). AtWork t.now) c (λ none. k) (λ w has. k)

  -- Each client of a run.

  abbrev AllAtWork : Config m → Type 0
  AllAtWork c = (k : ℕ) → AtWork (client_in m c k)

  turns : (c : Config m) → AllAtWork c → (k : ℕ) (t : ClientTurn m) → ClientInput m c k t → AtWork t.now
  turns c h k t (Commanded x) = commands (client_in m c k) x (h k)
  turns c h k t (Hears' p comes) = hears (client_in m c k) p.from p.rid p.msg (h k)
  turns c h k t Ticks' = ticks (client_in m c k) (h k)

  keeps : (c : Config m) → AllAtWork c → Cases m c AllAtWork
  keeps c h = record {
    idle = h;
    unit = λ u p a less. h;
    layout = λ l p a less. h;
    seqr = λ s t i less. h;
    client = λ k t i less. at_set c.clients k t.now (new_client m c.cluster) (λ j d. AtWork d) less (turns c h k t i) (λ j other. h j);
  }

  new_suits : (h : Header) (j : ℕ) → AtWork (new_client m h j)
  unfolding new_client
  new_suits h j = tt

  start_suits : (h : Header) → AllAtWork (config m (start m h))
  unfolding start
  start_suits h k = at_map (new_client m h) (numbers h.clients 0) k (new_client m h k) (λ d. AtWork d) (new_suits h) (new_suits h k)

  pub all_suit : (h : Header) (ms : Moves m) (w : World m) → Reaches m h ms w → AllAtWork (config m w)
  all_suit h ms w r = subst (λ (v : World m). AllAtWork (config m v)) (sym r.goes.is) (run_keeps m AllAtWork keeps ms (start m h) (start_suits h))
