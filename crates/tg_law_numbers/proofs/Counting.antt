-- What a client counts: one step each, and at most one transaction, one decision record and one checkpoint in it.
use Rattle.std.proofs.Common.{◌≡◌, ℕ, ◌+◌, ◌≤◌, List, refl, ap, arith, Some, None, Option}
use Rattle.tg_base.specs.declared.ids.NodeId.{NodeId}
use Rattle.tg_base.specs.declared.ids.Oid.{Oid}
use Rattle.tg_base.specs.declared.msg.Msg.{Msg}
use Rattle.tg_base.specs.declared.packet.Out.{Out}
use Rattle.tg_entry.specs.declared.entry.Entry.{Entry}
use Rattle.tg_kind.specs.Meaning.{Meaning}
use Rattle.tg_model.specs.Kinds.{CommandOf, WhatOf, NoteOf}
use Rattle.tg_model.specs.declared.refusal.Refusal.{Refusal}
use Rattle.tg_protocol.specs.Appending.{append_start}
use Rattle.tg_protocol.specs.Syncing.{sync_start}
use Rattle.tg_protocol.specs.Replies.{reply}
use Rattle.tg_protocol.specs.Views.{View}
use Rattle.tg_protocol.specs.Clients.{Purpose, Task, Work, Client}
use Rattle.tg_protocol.specs.Answers.{Moved, took_over, appends, syncs}
use Rattle.tg_protocol.specs.ClientSteps.{owns, client_command, client_deliver, client_tick}
use Rattle.tg_protocol.specs.Worlds.{client}
use Rattle.tg_law_steps.proofs.Places.{Place}
use Rattle.tg_law_steps.proofs.Ways.{Way, FeedsSync, AllWalked, IsRescue}
use Rattle.tg_law_steps.proofs.Ends.{End, GoesOn, LearnsNewer, Syncs, Appends, Refuses, Answers, Tells, IsGoing, WalkBegins, IsSynced, JudgedAt, IsAppended, EndDecides, DecideDecides, SaveBegins, MarkBegins, RescueDecides, IsRefused, CopyFault, IsAnswered, IsSaved, IsTold, IsMarked}
use Rattle.tg_law_steps.proofs.Takes.{IsSaid, Begins, Taken, SaidAtOnce, SyncsFirst, AppendsRecord, ReconfBegins, CopyBegins}
use Rattle.tg_law_steps.proofs.Along.{delivered, over_walks, commanded, ticked}
use Rattle.tg_law_numbers.specs.Counts.{CountsOne, StepsCountOne, AllCountOne}

-- Along a turn of this client.
module _ (m : Meaning) (old : Client m) where
  -- nothing was counted yet
  abbrev Same : Client m → Type 0
  Same d = (d.calls ≡ old.calls) × (d.begun ≡ old.begun) × (d.decisions ≡ old.decisions) × (d.checkpoints ≡ old.checkpoints)

  -- one of each at most
  abbrev One : Client m → Type 0
  One d = (d.calls ≡ old.calls) × (d.begun ≤ old.begun + 1) × (d.decisions ≤ old.decisions + 1) × (d.checkpoints ≤ old.checkpoints + 1)

  abbrev Here : Client m → Work m → Place m → Type 0
  Here c w p = Same c

  abbrev Good : Moved m → Type 0
  Good x = One x.now

  no_more : (a b : ℕ) → a ≡ b → a ≤ b + 1
  no_more a b e = omega (arith, e)

  one_more : (a b : ℕ) → a ≡ b → a + 1 ≤ b + 1
  one_more a b e = omega (arith, e)

  one_of : (d : Client m) → Same d → One d
  one_of d h = (h.0, no_more _ _ h.1, no_more _ _ h.2, no_more _ _ h.3)

  way : (c : Client m) (w : Work m) (p : Place m) (d : Client m) (v : Work m) (q : Place m) → Way m c w p d v q → Here c w p → Here d v q
  way c w _ _ _ _ (FeedsSync s i rid x) h = h
  way c w _ _ _ _ x h = h

  walked_way : (c : Client m) (w : Work m) (d : Client m) (q : Place m) → AllWalked m c w d q → Same c → Here d w q
  walked_way c w _ _ (IsRescue at of) h = h
  walked_way c w _ _ x h = h

  going_same : (c : Client m) (w : Work m) (p : Place m) (d : Client m) (t : Task m) (bs : List Out) → IsGoing m c w p d t bs → Same c → Same d
  going_same c w _ _ _ _ (WalkBegins o os x e) h = h
  going_same c w _ _ _ _ x h = h

  synced_same : (c : Client m) (w : Work m) (p : Place m) (d : Client m) (v : Work m) (os : List Oid) → IsSynced m c w p d v os → Same c → Same d
  synced_same c w _ _ _ _ (JudgedAt bs p d) h = h
  synced_same c w _ _ _ _ x h = h

  appended_one : (c : Client m) (w : Work m) (p : Place m) (d : Client m) (e : Entry) (y : Purpose m) (ns : List (NoteOf m)) → IsAppended m c w p d e y ns → Same c → One d
  appended_one c w _ _ _ _ _ (EndDecides es p upto e so what of came at judges lacks) h = (h.0, no_more _ _ h.1, one_more _ _ h.2, no_more _ _ h.3)
  appended_one c w _ _ _ _ _ (DecideDecides es p at e d so of none passes here by says lacks) h = (h.0, no_more _ _ h.1, one_more _ _ h.2, no_more _ _ h.3)
  appended_one c w _ _ _ _ _ (SaveBegins es p upto o of came small) h = (h.0, no_more _ _ h.1, no_more _ _ h.2, one_more _ _ h.3)
  appended_one c w _ _ _ _ _ (MarkBegins es p upto o i of came may) h = (h.0, one_more _ _ h.1, no_more _ _ h.2, no_more _ _ h.3)
  appended_one c w _ _ _ _ _ (RescueDecides at so e knows here) h = (h.0, no_more _ _ h.1, one_more _ _ h.2, no_more _ _ h.3)

  refused_same : (c : Client m) (w : Work m) (p : Place m) (d : Client m) (i : ℕ) (why : Refusal) → IsRefused m c w p d i why → Same c → Same d
  refused_same c w _ _ _ _ (CopyFault x i rid q why e) h = h
  refused_same c w _ _ _ _ x h = h

  took_same : (d : Client m) (v : Option (View m)) → Same d → Same (took_over m d v)
  took_same d None h = h
  took_same d (Some v) h = h

  answered_same : (c : Client m) (w : Work m) (p : Place m) (d : Client m) (i : ℕ) (what : WhatOf m) → IsAnswered m c w p d i what → Same c → Same d
  answered_same c w _ _ _ _ (IsSaved o upto bs p d) h = h
  answered_same c w _ _ _ _ x h = h

  told_same : (c : Client m) (w : Work m) (p : Place m) (d : Client m) (ns : List (NoteOf m)) → IsTold m c w p d ns → Same c → Same d
  told_same c w _ _ _ (IsMarked i o mark bs p d) h = took_same (owns m c p d) c.view h
  told_same c w _ _ _ x h = h

  syncs_one : (d : Client m) (v : Work m) (os : List Oid) → Same d → Good (syncs m d v os)
  unfolding syncs sync_start
  syncs_one d v os h = one_of d h

  appends_one : (d : Client m) (w : Work m) (e : Entry) (y : Purpose m) (ns : List (NoteOf m)) → One d → Good (appends m d w e y ns)
  unfolding appends append_start
  appends_one d w e y ns h = h

  ends_one : (c : Client m) (w : Work m) (p : Place m) (x : Moved m) → End m c w p x → Here c w p → Good x
  ends_one c w p _ (GoesOn d t bs x) h = one_of d (going_same c w p d t bs x h)
  ends_one c w p _ (LearnsNewer t x) h = one_of c h
  ends_one c w p _ (Syncs d v os x) h = syncs_one d v os (synced_same c w p d v os x h)
  ends_one c w p _ (Appends d e y ns x) h = appends_one d w e y ns (appended_one c w p d e y ns x h)
  ends_one c w p _ (Refuses d i why x) h = one_of d (refused_same c w p d i why x h)
  ends_one c w p _ (Answers d i what x) h = one_of (took_over m d d.view) (took_same d d.view (answered_same c w p d i what x h))
  ends_one c w p _ (Tells d ns x) h = one_of d (told_same c w p d ns x h)

module _ (m : Meaning) (c : Client m) where
  all_same : Same m c c
  all_same = (refl, refl, refl, refl)

  said_one : (x : CommandOf m) (d : Client m) (ns : List (NoteOf m)) → IsSaid m c x d ns → One m c d
  said_one _ _ _ Begins = (refl, omega arith, omega arith, omega arith)
  said_one _ _ _ s = (refl, omega arith, omega arith, omega arith)

  takes_one : (x : CommandOf m) (y : Moved m) → Taken m c x y → Good m c y
  takes_one _ _ (SaidAtOnce x d ns s) = said_one x d ns s
  takes_one _ _ (SyncsFirst x k) = syncs_one m c c _ _ all_same
  takes_one _ _ (AppendsRecord t y has some k) = appends_one m c c _ _ _ _ (one_of m c c all_same)
  takes_one _ _ (ReconfBegins x i r e) = one_of m c c all_same
  takes_one _ _ (CopyBegins u r s) = one_of m c c all_same

  counts_of : (d : Client m) → One m c d → CountsOne m c (record d { calls = d.calls + 1 })
  counts_of d h = record { calls = ap (λ (k : ℕ). k + 1) h.0; begun = h.1; decisions = h.2; checkpoints = h.3 }

  command_one : (x : CommandOf m) → CountsOne m c (client_command m c x).now
  unfolding client_command
  command_one x = counts_of _ (commanded m (Good m c) c x (λ why e. one_of m c c all_same) (λ e y t. takes_one x y t))

  deliver_one : (from : NodeId) (rid : ℕ) (x : Msg) → CountsOne m c (client_deliver m c from rid x).now
  unfolding client_deliver
  deliver_one from rid x = counts_of _ (delivered m (Here m c) (Good m c) (ends_one m c) (way m c) (over_walks m (Here m c) (Good m c) (ends_one m c) (walked_way m c)) c from rid (reply x) (one_of m c c all_same)
      (λ w t has doing a other. all_same) (λ w q has is e. all_same))

  tick_one : CountsOne m c (client_tick m c).now
  tick_one = ticked m (λ t. CountsOne m c t.now) c (λ e. counts_of c (one_of m c c all_same)) (λ w e. counts_of _ (one_of m c c all_same))

  steps_count_one : StepsCountOne m c
  steps_count_one = record { command = λ x. command_one x; deliver = λ from rid x. deliver_one from rid x; tick = tick_one }

pub all_count_one : (m : Meaning) → AllCountOne m
all_count_one m c = steps_count_one m c
