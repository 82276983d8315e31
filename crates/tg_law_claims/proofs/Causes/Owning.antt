-- Through each of a client's turns: its own records are commit records of the log, where appends that end stand there.
use Rattle.std.proofs.Common.{ap, ◌≡◌, ◌⊎◌, ℕ, List, [], ◌∷◌, true, refl, sym, ◌∙◌, subst, inl, inr, Option, Some, None}
use Rattle.std.specs.Prelude.{Contains}
use Rattle.tg_base.specs.declared.ids.NodeId.{NodeId}
use Rattle.tg_base.specs.declared.ids.Oid.{Oid}
use Rattle.tg_base.specs.declared.marks.StreamLink.{StreamLink}
use Rattle.tg_base.specs.declared.msg.Msg.{Msg}
use Rattle.tg_base.specs.declared.packet.Out.{Out}
use Rattle.tg_entry.specs.Records.{linked}
use Rattle.tg_entry.specs.declared.entry.Entry.{Entry}
use Rattle.tg_kind.specs.Meaning.{Meaning}
use Rattle.tg_model.specs.declared.refusal.Refusal.{Refusal}
use Rattle.tg_model.specs.declared.trace.What.TheVariants as told
use Rattle.tg_model.specs.Kinds.{CommandOf, WhatOf, NoteOf}
use Rattle.tg_protocol.specs.Words.{with_num}
use Rattle.tg_protocol.specs.Entries.{is_commit}
use Rattle.tg_protocol.specs.Requests.{Next, Ends}
use Rattle.tg_protocol.specs.Replies.{Reply, reply}
use Rattle.tg_protocol.specs.Appending.{Append, AppendEnd, At, append_start}
use Rattle.tg_protocol.specs.Syncing.{sync_start}
use Rattle.tg_protocol.specs.Views.{Entries, View}
use Rattle.tg_protocol.specs.Transactions.{Tx, commit_record}
use Rattle.tg_protocol.specs.Clients.{Purpose, Writes, Judged, Marks, Task, Hand, Work, Client}
use Rattle.tg_protocol.specs.Answers.{refuses, Moved, note, replies, took_over, appends, syncs}
use Rattle.tg_protocol.specs.ClientSteps.{task_in, goes_on, learns_for, owns, stands, feed, client_command, client_deliver, client_tick, tick_by}
use Rattle.tg_protocol.specs.Holding.{append_of, append_by}
use Rattle.tg_law_layouts.proofs.Moves.Members.{Has}
use Rattle.tg_law_layouts.proofs.Moves.Turns.{not_busy}
use Rattle.tg_law_replies.proofs.History.Members.{has_contained, contained_has}
use Rattle.tg_law_replies.specs.Replies.Ended.{EndsSo, end_of, task_ends, again_ends, work_ends}
use Rattle.tg_law_replies.proofs.Replies.Turns.{Keeps as KeepsDraft, LandsBy, feed_keeps, again_keeps}
use Rattle.tg_law_walks.proofs.Walks.Positions.{nums_split}
use Rattle.tg_law_replies.proofs.Replies.Ways.{end_fed, end_newer}
use Rattle.tg_law_claims.proofs.Causes.Stalling.{IsRecord, DraftFits, TaskDrafts, WorkDrafts}
use Rattle.tg_law_steps.proofs.Places.{Place, Feeds, Newer, OnAppend, Walks}
use Rattle.tg_law_steps.proofs.Ways.{Way, FeedsAppend, NewerAppend, AllWalked, HasPlayed}
use Rattle.tg_law_steps.proofs.Ends.{End, GoesOn, LearnsNewer, Syncs, Appends, Refuses, Answers, Tells, IsGoing, AppendGoes, IsLearning, AppendLearns, IsSynced, JudgedAt, IsAppended, MarkBegins, IsRefused, RecordForgotten, IsAnswered, DecidedAt, IsTold, IsCommitted, IsMarked}
use Rattle.tg_law_steps.proofs.Takes.{IsSaid, Begins, Taken, SaidAtOnce, AppendsRecord, said_work}
use Rattle.tg_law_steps.proofs.Along.{delivered, over_walks, commanded}

record_commits : (t : Tx) (n : ℕ) → is_commit (commit_record t n) ≡ true
unfolding commit_record
record_commits t n = refl

module _ (m : Meaning) (es : Entries) (Mine : ℕ → Type 0) (mine : (p : ℕ) (d : Entry) (links : List StreamLink) → is_commit d ≡ true → Contains es (p, linked d links) → Mine p) where
  abbrev pub Owned : List ℕ → Type 0
  Owned own = (p : ℕ) → Contains own p → Mine p

  pub record Fits (c : Client m) : Type 0 where
    pub own : Owned c.own
    pub work : WorkDrafts m c.work

  abbrev So : Moved m → Type 0
  So x = Fits x.now

  owns_more : (own : List ℕ) (p : ℕ) → Mine p → Owned own → Owned (with_num p own)
  owns_more own p k h q i = by (nums_split (p ∷ []) own q (has_contained (with_num p own) q i))
    where
      by : Has (p ∷ []) q ⊎ Has own q → Mine q
      by (inl (inl e)) = subst Mine (sym e) k
      by (inl (inr e)) = absurd e
      by (inr j) = h q (contained_has own q j)

  -- Along a turn.

  -- an append's draft, and where it lands
  record Lands (y : Purpose m) (to : Next Append AppendEnd) : Type 0 where
    draft : Entry
    fits : DraftFits m draft y
    keeps : KeepsDraft draft to
    lands : (e : AppendEnd) → end_of to ≡ Some e → EndsSo m es draft e

  abbrev LandsTask : Task m → Option AppendEnd → Type 0
  LandsTask t end = LandsBy m es (append_of m t) end

  abbrev Here : Client m → Work m → Place m → Type 0
  Here c w (Feeds t n rid x) = TaskDrafts m t × LandsTask t (task_ends m c t n x)
  Here c w (Newer t n rid q) = TaskDrafts m t × LandsTask t (again_ends m (stands m c q) t)
  Here c w (OnAppend y bs to) = Lands y to
  Here c w p = Unit {0}

  abbrev Held : Client m → Work m → Place m → Type 0
  Held c w p = Owned c.own × Here c w p

  way : (c : Client m) (w : Work m) (p : Place m) (d : Client m) (v : Work m) (q : Place m) → Way m c w p d v q → Held c w p → Held d v q
  way c w _ _ _ _ (FeedsAppend a y n rid x) h = (h.0, record { draft = a.draft; fits = h.1.0; keeps = feed_keeps c.stand a n x c.next; lands = λ e is. h.1.1 a e refl is })
  way c w _ _ _ _ (NewerAppend a y n rid q) h = (h.0, record { draft = a.draft; fits = h.1.0; keeps = again_keeps q a c.next; lands = λ e is. h.1.1 a e refl is })
  way c w _ _ _ _ x h = (h.0, tt)

  walked_way : (c : Client m) (w : Work m) (d : Client m) (q : Place m) → AllWalked m c w d q → Held c w (Walks []) → Held d w q
  walked_way c w _ _ (HasPlayed k) h = h
  walked_way c w _ _ x h = h

  landed : (own : List ℕ) (y : Purpose m) (p : ℕ) (page : List ℕ) → IsRecord m y → Owned own → Lands y (Ends (At p page)) → Owned (with_num p own)
  landed own y p page k h l = let s = l.lands (At p page) refl in owns_more own p (mine p l.draft s.0 (l.fits k) s.1) h

  took : (c : Client m) (v : Option (View m)) (ns : List (NoteOf m)) → Owned c.own → So (replies m (took_over m c v) ns)
  took c None ns h = record { own = h; work = tt }
  took c (Some v) ns h = record { own = h; work = tt }

  goes_fit : (c : Client m) (w : Work m) (p : Place m) (d : Client m) (t : Task m) (bs : List Out) → IsGoing m c w p d t bs → Held c w p → So (goes_on m d w t bs)
  goes_fit c w _ _ _ _ (AppendGoes y bs a) h = record { own = h.0; work = subst (λ (e : Entry). DraftFits m e y) (sym h.1.keeps) h.1.fits }
  goes_fit c w _ _ _ _ x h = record { own = h.0; work = tt }

  learns_fit : (c : Client m) (w : Work m) (p : Place m) (t : Task m) → IsLearning m c w p t → Held c w p → So (learns_for m c w t)
  learns_fit c w _ _ (AppendLearns y bs a) h = record { own = h.0; work = subst (λ (e : Entry). DraftFits m e y) (sym h.1.keeps) h.1.fits }
  learns_fit c w _ _ x h = record { own = h.0; work = tt }

  synced_fit : (c : Client m) (w : Work m) (p : Place m) (d : Client m) (v : Work m) (os : List Oid) → IsSynced m c w p d v os → Held c w p → So (syncs m d v os)
  unfolding syncs sync_start
  synced_fit c w _ _ _ _ (JudgedAt bs p page) h = record { own = landed c.own Judged p page tt h.0 h.1; work = tt }
  synced_fit c w _ _ _ _ x h = record { own = h.0; work = tt }

  appended_fit : (c : Client m) (w : Work m) (p : Place m) (d : Client m) (e : Entry) (y : Purpose m) (ns : List (NoteOf m)) → IsAppended m c w p d e y ns → Held c w p → So (appends m d w e y ns)
  unfolding appends append_start
  appended_fit c w _ _ _ _ _ (MarkBegins es p upto o n of came may) h = record { own = h.0; work = λ k. refl }
  appended_fit c w _ _ _ _ _ x h = record { own = h.0; work = λ k. absurd k }

  refused_fit : (c : Client m) (w : Work m) (p : Place m) (d : Client m) (n : ℕ) (why : Refusal) → IsRefused m c w p d n why → Held c w p → So (refuses m d n why)
  refused_fit c w _ _ _ _ (RecordForgotten y bs p b k) h = record { own = h.0; work = tt }
  refused_fit c w _ _ _ _ x h = record { own = h.0; work = tt }

  answered_own : (c : Client m) (w : Work m) (p : Place m) (d : Client m) (n : ℕ) (what : WhatOf m) → IsAnswered m c w p d n what → Held c w p → Owned d.own
  answered_own c w _ _ _ _ (DecidedAt x bs p page other) h = h.0
  answered_own c w _ _ _ _ x h = h.0

  told_fit : (c : Client m) (w : Work m) (p : Place m) (d : Client m) (ns : List (NoteOf m)) → IsTold m c w p d ns → Held c w p → So (replies m d ns)
  told_fit c w _ _ _ (IsCommitted bs p page) h = record { own = landed c.own Writes p page tt h.0 h.1; work = tt }
  told_fit c w _ _ _ (IsMarked n o j bs p page) h = took (owns m c p page) c.view (note m n (told.Committed p) ∷ note m 0 (told.Marked o j) ∷ []) (landed c.own (Marks n o j) p page tt h.0 h.1)
  told_fit c w _ _ _ x h = record { own = h.0; work = tt }

  ends_fit : (c : Client m) (w : Work m) (p : Place m) (x : Moved m) → End m c w p x → Held c w p → So x
  ends_fit c w p _ (GoesOn d t bs x) h = goes_fit c w p d t bs x h
  ends_fit c w p _ (LearnsNewer t x) h = learns_fit c w p t x h
  ends_fit c w p _ (Syncs d v os x) h = synced_fit c w p d v os x h
  ends_fit c w p _ (Appends d e y ns x) h = appended_fit c w p d e y ns x h
  ends_fit c w p _ (Refuses d n why x) h = refused_fit c w p d n why x h
  ends_fit c w p _ (Answers d n what x) h = took d d.view (note m n what ∷ []) (answered_own c w p d n what x h)
  ends_fit c w p _ (Tells d ns x) h = told_fit c w p d ns x h

  pub feed_fit : (c : Client m) (from : NodeId) (rid : ℕ) (x : Reply) → Fits c → LandsBy m es (append_by m c.work) (work_ends m c c.work from rid x) → So (feed m c c.work from rid x)
  feed_fit c from rid x h l = delivered m Held So ends_fit way (over_walks m Held So ends_fit walked_way) c from rid x h
      (λ w t has doing a other. (h.own, (subst (λ (d : Hand m). TaskDrafts m (task_in m d)) doing (subst (WorkDrafts m) has h.work), λ b e is k. l b e (ap (append_by m) has ∙ (ap (λ (d : Hand m). append_of m (task_in m d)) doing ∙ is)) (end_fed m c from rid x w t has doing a other ∙ k))))
      (λ w q has is e. (h.own, (subst (WorkDrafts m) has h.work, λ b z of k. l b z (ap (append_by m) has ∙ of) (end_newer m c from rid x w q has is e ∙ k))))

  -- A command.

  said_own : (c : Client m) (x : CommandOf m) (d : Client m) (ns : List (NoteOf m)) → IsSaid m c x d ns → d.own ≡ c.own
  said_own c _ _ _ Begins = refl
  said_own c _ _ _ s = refl

  takes_fit : (c : Client m) (x : CommandOf m) → Owned c.own → c.work ≡ None → (y : Moved m) → Taken m c x y → So y
  unfolding appends append_start syncs sync_start
  takes_fit c _ h free _ (SaidAtOnce x d ns s) = record { own = subst Owned (sym (said_own c x d ns s)) h; work = subst (WorkDrafts m) (sym (said_work m c x d ns s ∙ free)) tt }
  takes_fit c _ h free _ (AppendsRecord t y is e k) = record { own = h; work = λ i. record_commits t c.num }
  takes_fit c _ h free _ x = record { own = h; work = tt }

  -- Turns.

  pub command_fits : (c : Client m) (x : CommandOf m) → Fits c → Fits (client_command m c x).now
  unfolding client_command
  command_fits c x h = let g = commanded m So c x (λ why e. record { own = h.own; work = h.work }) (λ e. takes_fit c x h.own (not_busy m c x e)) in record { own = g.own; work = g.work }

  pub deliver_fits : (c : Client m) (from : NodeId) (rid : ℕ) (y : Msg) → Fits c → LandsBy m es (append_by m c.work) (work_ends m c c.work from rid (reply y)) → Fits (client_deliver m c from rid y).now
  unfolding client_deliver
  deliver_fits c from rid y h l = let g = feed_fit c from rid (reply y) h l in record { own = g.own; work = g.work }

  pub tick_fits : (c : Client m) → Fits c → Fits (client_tick m c).now
  unfolding client_tick
  tick_fits c h = by c.work
    where
      by : (w : Option (Work m)) → Fits (tick_by m c w).now
      by None = record { own = h.own; work = h.work }
      by (Some w) = record { own = h.own; work = h.work }
