-- Through each of a client's turns: the object of which the command that waits asks is hosted, since the command was given.
use Rattle.std.proofs.Common.{◌≡◌, ℕ, List, [], ◌∷◌, Bool, true, false, refl, sym, subst, ◌∙◌, Some, None, Option}
use Rattle.std.specs.Prelude.{not}
use Rattle.tg_base.specs.declared.ids.NodeId.{NodeId}
use Rattle.tg_base.specs.declared.ids.Oid.{Oid}
use Rattle.tg_base.specs.declared.msg.Msg.{Msg}
use Rattle.tg_kind.specs.Meaning.{Meaning}
use Rattle.tg_model.specs.declared.command.Command.TheVariants as cmd
use Rattle.tg_model.specs.Kinds.{CommandOf}
use Rattle.tg_model.specs.declared.refusal.Refusal.{Refusal}
use Rattle.tg_model.specs.declared.refusal.Refusal.TheVariants as cause
use Rattle.tg_protocol.specs.Words.{first_some, where_true}
use Rattle.tg_protocol.specs.Replies.{reply}
use Rattle.tg_protocol.specs.Appending.{append_start}
use Rattle.tg_protocol.specs.Syncing.{sync_start}
use Rattle.tg_protocol.specs.Causes.{AsksOf}
use Rattle.tg_protocol.specs.Clients.{Work, Client, hosts_oid, busy, no_tx, tx_open, wrong_kind, not_hosted, ask_fault, tests, refusal}
use Rattle.tg_protocol.specs.Answers.{Moved, moved, appends, syncs}
use Rattle.tg_protocol.specs.ClientSteps as step
use Rattle.tg_protocol.specs.ClientSteps.{after_turn, met, goes_on, start_walk, takes_back, found_by, lends, knows, lo_for, synced, sync_to, on_sync, stale, gives_up, given_up_if, starts_over, at_trim, walk_ended_by, walk_to, on_walk, decided_for, append_ended, append_to, on_append, trim_to, on_trims, copy_to, on_copy, stands, task_in, reconf_to, on_reconf, task_feed, task_again, copies_again, on_newer, accepts, refused_or, new_work, client_command, client_deliver, client_tick}
use Rattle.tg_law_layouts.proofs.Moves.Members.{Has}
use Rattle.tg_law_layouts.proofs.Moves.Turns.{not_busy}
use Rattle.tg_law_headline.proofs.Origins.Drafts.{has_oid_has}
use Rattle.tg_law_steps.proofs.Places.{Place}
use Rattle.tg_law_steps.proofs.Ways.{Way, FeedsSync, AllWalked, IsRescue}
use Rattle.tg_law_steps.proofs.Ends.{End, GoesOn, SyncGoes, LearnsNewer, Syncs, JudgedAt, Appends, MarkBegins}
use Rattle.tg_law_steps.proofs.Takes.{Taken, SaidAtOnce, said_work}
use Rattle.tg_law_steps.proofs.Along.{delivered, commanded, over_walks}

some_no : {X : Type 0} (why : Refusal) → Some why ≡ None → X
some_no why e = absurd cc

first_none : (x : Option Refusal) (xs : List (Option Refusal)) → first_some (x ∷ xs) ≡ None → (x ≡ None) × (first_some xs ≡ None)
first_none None xs e = (refl, e)
first_none (Some why) xs e = some_no why e

module _ (m : Meaning) where
  -- the object of which a work's command asks is one of these
  abbrev pub Hosts : List Oid → Work m → Type 0
  Hosts hosted w = (o : Oid) → AsksOf m w.command o → Has hosted o

  abbrev pub WorkHosts : List Oid → Option (Work m) → Type 0
  WorkHosts hosted None = Unit {0}
  WorkHosts hosted (Some w) = Hosts hosted w

  abbrev pub ClientHosts : Client m → Type 0
  ClientHosts c = WorkHosts c.hosted c.work

  abbrev Fine : Moved m → Type 0
  Fine x = WorkHosts x.now.hosted x.now.work

  idle_fine : (x : Moved m) → x.now.work ≡ None → Fine x
  idle_fine x e = subst (WorkHosts x.now.hosted) (sym e) tt

  -- Along a turn.

  way : (c : Client m) (w : Work m) (p : Place m) (d : Client m) (v : Work m) (q : Place m) → Way m c w p d v q → Hosts c.hosted w → Hosts d.hosted v
  way c w _ _ _ _ (FeedsSync s n rid x) h = h
  way c w _ _ _ _ x h = h

  walked_way : (c : Client m) (w : Work m) (d : Client m) (q : Place m) → AllWalked m c w d q → Hosts c.hosted w → Hosts d.hosted w
  walked_way c w _ _ (IsRescue at of) h = h
  walked_way c w _ _ x h = h

  ends_fine : (c : Client m) (w : Work m) (p : Place m) (x : Moved m) → End m c w p x → Hosts c.hosted w → Fine x
  unfolding appends append_start syncs sync_start
  ends_fine c w _ _ (GoesOn _ _ _ (SyncGoes bs s)) h = h
  ends_fine c w _ _ (GoesOn _ _ _ x) h = h
  ends_fine c w _ _ (LearnsNewer t x) h = h
  ends_fine c w _ _ (Syncs _ _ _ (JudgedAt bs p d)) h = h
  ends_fine c w _ _ (Syncs _ _ _ x) h = h
  ends_fine c w _ _ (Appends _ _ _ _ (MarkBegins es p upto o n of came may)) h = h
  ends_fine c w _ _ (Appends _ _ _ _ x) h = h
  ends_fine c w _ _ x h = tt

  takes_fine : (c : Client m) (x : CommandOf m) → c.work ≡ None → Hosts c.hosted (new_work m x) → (y : Moved m) → Taken m c x y → Fine y
  unfolding appends append_start syncs sync_start
  takes_fine c _ e k _ (SaidAtOnce x d ns s) = idle_fine (moved m d ns) (said_work m c x d ns s ∙ e)
  takes_fine c _ e k _ x = k

  is_hosted : (c : Client m) (o : Oid) → not_hosted m c o ≡ None → Has c.hosted o
  is_hosted c o e = by (hosts_oid m c o) refl e
    where
      by : (b : Bool) → hosts_oid m c o ≡ b → where_true (not b) (cause.NotHosted o) ≡ None → Has c.hosted o
      by true is e = has_oid_has o c.hosted is
      by false is e = some_no (cause.NotHosted o) e

  -- none of its tests refuses the command
  passes : (c : Client m) (x : CommandOf m) → first_some (tests m c x) ≡ None → (o : Oid) → AsksOf m x o → Has c.hosted o
  unfolding tests
  passes c (cmd.Ask p q) e o a =
      let f = (first_none (no_tx m c) (wrong_kind m (m.allows_ask p q) p ∷ not_hosted m c p ∷ ask_fault m c.tx p (m.look q) ∷ []) e).1 in
      let g = (first_none (wrong_kind m (m.allows_ask p q) p) (not_hosted m c p ∷ ask_fault m c.tx p (m.look q) ∷ []) f).1 in
      subst (λ (y : Oid). Has c.hosted y) a (is_hosted c p (first_none (not_hosted m c p) (ask_fault m c.tx p (m.look q) ∷ []) g).0)
  passes c (cmd.Checkpoint p) e o a = subst (λ (y : Oid). Has c.hosted y) a (is_hosted c p (first_none (not_hosted m c p) [] (first_none (tx_open m c) (not_hosted m c p ∷ []) e).1).0)
  passes c (cmd.Forget p n) e o a = subst (λ (y : Oid). Has c.hosted y) a (is_hosted c p (first_none (not_hosted m c p) [] (first_none (tx_open m c) (not_hosted m c p ∷ []) e).1).0)
  passes c (cmd.AskAt at p q) e o a =
      let f = (first_none (tx_open m c) (wrong_kind m (m.allows_ask p q) p ∷ not_hosted m c p ∷ []) e).1 in
      let g = (first_none (wrong_kind m (m.allows_ask p q) p) (not_hosted m c p ∷ []) f).1 in
      subst (λ (y : Oid). Has c.hosted y) a (is_hosted c p (first_none (not_hosted m c p) [] g).0)
  passes c x e o a = absurd a

  passed : (c : Client m) (x : CommandOf m) → refusal m c x ≡ None → (o : Oid) → AsksOf m x o → Has c.hosted o
  unfolding refusal
  passed c x e = passes c x (first_none (busy m c.work) (tests m c x) e).1

  -- Turns.

  pub command_fine : (c : Client m) (x : CommandOf m) → ClientHosts c → ClientHosts (client_command m c x).now
  unfolding client_command
  command_fine c x k = commanded m Fine c x (λ why e. k) (λ e. takes_fine c x (not_busy m c x e) (passed c x e))

  pub deliver_fine : (c : Client m) (from : NodeId) (rid : ℕ) (y : Msg) → ClientHosts c → ClientHosts (client_deliver m c from rid y).now
  unfolding client_deliver
  deliver_fine c from rid y k = delivered m (λ d w p. Hosts d.hosted w) Fine ends_fine way (over_walks m (λ d w p. Hosts d.hosted w) Fine ends_fine walked_way) c from rid (reply y) k
      (λ w t has doing a other. subst (WorkHosts c.hosted) has k) (λ w q has is a. subst (WorkHosts c.hosted) has k)

  pub tick_fine : (c : Client m) → ClientHosts c → ClientHosts (client_tick m c).now
  unfolding client_tick
  tick_fine c k = by c.work k
    where
      by : (w : Option (Work m)) → WorkHosts c.hosted w → ClientHosts (step.tick_by m c w).now
      by None f = k
      by (Some w) f = k
