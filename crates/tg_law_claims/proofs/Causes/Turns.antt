-- What a client's turn makes of its host list, its directory as played and its transaction, and whether it refuses.
use Rattle.std.proofs.Common.{◌≡◌, ℕ, ◌+◌, List, [], ◌∷◌, refl, sym, subst, inl, inr, Option, Some, None}
use Rattle.tg_base.specs.declared.ids.NodeId.{NodeId}
use Rattle.tg_base.specs.declared.ids.Oid.{Oid}
use Rattle.tg_base.specs.declared.msg.Msg.{Msg}
use Rattle.tg_base.specs.declared.packet.Out.{Out}
use Rattle.tg_entry.specs.declared.entry.Entry.{Entry}
use Rattle.tg_kind.specs.Meaning.{Meaning}
use Rattle.tg_model.specs.declared.command.Command.TheVariants as cmd
use Rattle.tg_model.specs.declared.refusal.Refusal.{Refusal}
use Rattle.tg_model.specs.declared.refusal.Refusal.TheVariants as cause
use Rattle.tg_model.specs.declared.trace.What.TheVariants as told
use Rattle.tg_model.specs.Kinds.{CommandOf, WhatOf, NoteOf}
use Rattle.tg_protocol.specs.Replies.{Reply, reply}
use Rattle.tg_protocol.specs.Appending.{append_start}
use Rattle.tg_protocol.specs.Syncing.{sync_start}
use Rattle.tg_protocol.specs.Transactions.{commit_record}
use Rattle.tg_protocol.specs.Clients.{Purpose, Writes, Decides, Rescues, Task, Appending, Hand, Work, Client, number_on, refusal}
use Rattle.tg_protocol.specs.Answers.{holds, Moved, moved, note, replies, refuses, took_over, answers, closed, appends, syncs, with_decision}
use Rattle.tg_protocol.specs.ClientSteps.{task_in, goes_on, learns_for, owns, lost, feed, new_work, accepts, refused_or, given, ClientTurn, client_command, client_deliver, client_tick, tick_by}
use Rattle.tg_protocol.specs.Causes.{KeepsHosts, KeepsTx}
use Rattle.tg_law_steps.proofs.Places.{Place, Feeds, Newer, OnAppend, Walks}
use Rattle.tg_law_steps.proofs.Ways.{Way, FeedsAppend, NewerAppend, AllWalked, HasPlayed}
use Rattle.tg_law_steps.proofs.Ends.{End, GoesOn, LearnsNewer, Syncs, Appends, Refuses as Refuses', Answers, Tells, IsGoing, AppendGoes, IsLearning, AppendLearns, IsSynced, JudgedAt, IsAppended, MarkBegins, EndDecides, Commit', IsRefused, RecordForgotten, IsAnswered, DecidedAt, DecidedLost, JudgedSo, JudgedLost, EndJudged, IsTold, IsRescued, IsMarked, PlaysOther}
use Rattle.tg_law_steps.proofs.Takes.{IsSaid, NoTxOpen, NoViewKept, NoStateKept, ReadsOnly, Taken as Taken', SaidAtOnce, SyncsFirst, AppendsRecord, ForWrites, taken}
use Rattle.tg_law_steps.proofs.Along.{delivered as delivered', over_walks}

module _ (m : Meaning) where
  abbrev pub NotRefused : WhatOf m → Type 0
  NotRefused (told.Refused why) = ⊥
  NotRefused what = Unit {0}

  abbrev pub NoneRefused : List (NoteOf m) → Type 0
  NoneRefused [] = Unit {0}
  NoneRefused (n ∷ ns) = NotRefused n.what × NoneRefused ns

  -- an answer that waits for its decision record is no refusal
  abbrev pub PurposeFine : Purpose m → Type 0
  PurposeFine (Decides what) = NotRefused what
  PurposeFine (Rescues what) = NotRefused what
  PurposeFine y = Unit {0}

  abbrev pub TaskFine : Task m → Type 0
  TaskFine (Appending a y) = PurposeFine y
  TaskFine t = Unit {0}

  abbrev pub Fine : Option (Work m) → Type 0
  Fine None = Unit {0}
  Fine (Some w) = TaskFine (task_in m w.hand)

  -- the answer that waits for an append, at a place within a turn
  abbrev pub Aims : Place m → Type 0
  Aims (OnAppend y bs to) = PurposeFine y
  Aims p = Unit {0}

  -- what is answered or told is no refusal
  pub answer_fine : (c : Client m) (w : Work m) (p : Place m) (d : Client m) (n : ℕ) (what : WhatOf m) → IsAnswered m c w p d n what → Aims p → NotRefused what
  answer_fine c w _ _ _ _ (DecidedAt x bs p d no_end) k = k
  answer_fine c w _ _ _ _ (DecidedLost x bs e lost no_end) k = k
  answer_fine c w _ _ _ _ (JudgedSo x bs p d of) k = k
  answer_fine c w _ _ _ _ (JudgedLost x bs e lost of) k = k
  answer_fine c w _ _ _ _ (EndJudged es p upto e _ _ of came i (Commit' v) l) k = tt
  answer_fine c w _ _ _ _ (EndJudged es p upto e _ _ of came i j l) k = tt
  answer_fine c w _ _ _ _ x k = tt

  pub told_fine : (c : Client m) (w : Work m) (p : Place m) (d : Client m) (ns : List (NoteOf m)) → IsTold m c w p d ns → Aims p → NoneRefused ns
  told_fine c w _ _ _ (IsRescued x bs p d) k = (k, tt)
  told_fine c w _ _ _ (IsMarked n o mark bs p d) k = (tt, (tt, tt))
  told_fine c w _ _ _ (PlaysOther es p is) k = tt
  told_fine c w _ _ _ x k = (tt, tt)

-- The client before the step.
module _ (m : Meaning) (c0 : Client m) where
  pub record Kept (d : Client m) : Type 0 where
    pub hosts : KeepsHosts m c0 d
    pub tx : d.tx ≡ c0.tx

  -- a turn that says nothing, or replies and doesn't refuse
  pub data Takes (x : Moved m) : Type 0 where
    Silent : x.notes ≡ [] → Kept x.now → Fine m x.now.work → Takes x
    Says : (n : NoteOf m) (ns : List (NoteOf m)) → x.notes ≡ n ∷ ns → NoneRefused m (n ∷ ns) → Fine m x.now.work → Takes x

  -- or refuses
  pub data Turned (x : Moved m) : Type 0 where
    On : Takes x → Turned x
    Refuses : (n : ℕ) (why : Refusal) → x.notes ≡ note m n (told.Refused why) ∷ [] → KeepsHosts m c0 x.now → KeepsTx m why c0 x.now → Fine m x.now.work → Turned x

  -- a client within the step
  abbrev pub In : Client m → Type 0
  In c = (c.hosted ≡ c0.hosted) × (c.dir ≡ c0.dir) × (c.played ≡ c0.played) × (c.tx ≡ c0.tx) × Fine m c.work

  still : (c : Client m) → In c → Takes (moved m c [])
  still c h = Silent refl (record { hosts = record { hosted = h.0; dir = h.1; played = h.2 }; tx = h.3 }) h.4

  goes : (c : Client m) (w : Work m) (t : Task m) (bs : List Out) → In c → TaskFine m t → Takes (goes_on m c w t bs)
  goes c w t bs h k = Silent refl (record { hosts = record { hosted = h.0; dir = h.1; played = h.2 }; tx = h.3 }) k

  learns : (c : Client m) (w : Work m) (t : Task m) → In c → TaskFine m t → Takes (learns_for m c w t)
  learns c w t h k = Silent refl (record { hosts = record { hosted = h.0; dir = h.1; played = h.2 }; tx = h.3 }) k

  held : (c : Client m) (w : Work m) (t : Task m) (next : ℕ) → In c → TaskFine m t → Takes (holds m c w t next [])
  held c w t next h k = Silent refl (record { hosts = record { hosted = h.0; dir = h.1; played = h.2 }; tx = h.3 }) k

  replied : (c : Client m) (n : NoteOf m) (ns : List (NoteOf m)) → NoneRefused m (n ∷ ns) → Takes (replies m c (n ∷ ns))
  replied c n ns k = Says n ns refl k tt

  answered : (c : Client m) (n : ℕ) (what : WhatOf m) → NotRefused m what → Turned (answers m c n what)
  answered c n what k = On (Says (note m n what) [] refl (k, tt) tt)

  tells : (c : Client m) (n : ℕ) (what : WhatOf m) → NotRefused m what → Turned (replies m c (note m n what ∷ []))
  tells c n what k = On (Says (note m n what) [] refl (k, tt) tt)

  refused : (c : Client m) (n : ℕ) (why : Refusal) → In c → Turned (refuses m c n why)
  refused c n why h = Refuses n why refl (record { hosted = h.0; dir = h.1; played = h.2 }) (inl h.3) tt

  appended : (c : Client m) (w : Work m) (e : Entry) (y : Purpose m) → In c → PurposeFine m y → Takes (appends m c w e y [])
  unfolding appends append_start
  appended c w e y h k = Silent refl (record { hosts = record { hosted = h.0; dir = h.1; played = h.2 }; tx = h.3 }) k

  appended_so : (c : Client m) (w : Work m) (e : Entry) (y : Purpose m) (n : NoteOf m) (ns : List (NoteOf m)) → PurposeFine m y → NoneRefused m (n ∷ ns) → Takes (appends m c w e y (n ∷ ns))
  unfolding appends append_start
  appended_so c w e y n ns k f = Says n ns refl f k

  synced : (c : Client m) (w : Work m) (os : List Oid) → In c → Takes (syncs m c w os)
  unfolding syncs sync_start
  synced c w os h = Silent refl (record { hosts = record { hosted = h.0; dir = h.1; played = h.2 }; tx = h.3 }) tt

  -- Along a turn.

  -- the answer that waits for an append there is no refusal
  abbrev Aim : Place m → Type 0
  Aim (Feeds t n rid x) = TaskFine m t
  Aim (Newer t n rid q) = TaskFine m t
  Aim p = Aims m p

  aims : (p : Place m) → Aim p → Aims m p
  aims (OnAppend y bs to) k = k
  aims p k = tt

  abbrev At' : Client m → Work m → Place m → Type 0
  At' c w p = In c × Aim p

  way : (c : Client m) (w : Work m) (p : Place m) (d : Client m) (v : Work m) (q : Place m) → Way m c w p d v q → At' c w p → At' d v q
  way c w _ _ _ _ (FeedsAppend a y n rid x) h = h
  way c w _ _ _ _ (NewerAppend a y n rid q) h = h
  way c w _ _ _ _ x h = (h.0, tt)

  walked_way : (c : Client m) (w : Work m) (d : Client m) (q : Place m) → AllWalked m c w d q → At' c w (Walks []) → At' d w q
  walked_way c w _ _ (HasPlayed k) h = h
  walked_way c w _ _ x h = h

  in_going : (c : Client m) (w : Work m) (p : Place m) (d : Client m) (t : Task m) (bs : List Out) → IsGoing m c w p d t bs → At' c w p → In d × TaskFine m t
  in_going c w _ _ _ _ (AppendGoes y bs a) h = h
  in_going c w _ _ _ _ x h = (h.0, tt)

  in_learning : (c : Client m) (w : Work m) (p : Place m) (t : Task m) → IsLearning m c w p t → At' c w p → TaskFine m t
  in_learning c w _ _ (AppendLearns y bs a) h = h.1
  in_learning c w _ _ x h = tt

  in_synced : (c : Client m) (w : Work m) (p : Place m) (d : Client m) (v : Work m) (os : List Oid) → IsSynced m c w p d v os → In c → In d
  in_synced c w _ _ _ _ (JudgedAt bs p d) h = h
  in_synced c w _ _ _ _ x h = h

  appends_takes : (c : Client m) (w : Work m) (p : Place m) (d : Client m) (e : Entry) (y : Purpose m) (ns : List (NoteOf m)) → IsAppended m c w p d e y ns → In c → Takes (appends m d w e y ns)
  appends_takes c w _ _ _ _ _ (MarkBegins es p upto o n of came may) h = appended_so (record c { begun = c.begun + 1 }) w _ _ _ _ tt (tt, (tt, (tt, tt)))
  appends_takes c w _ _ _ _ _ (EndDecides es p upto e _ _ of came i (Commit' v) l) h = appended (with_decision m c) w _ _ h tt
  appends_takes c w _ _ _ _ _ (EndDecides es p upto e _ _ of came i j l) h = appended (with_decision m c) w _ _ h tt
  appends_takes c w _ d e y _ x h = appended d w e y h tt

  refuses_turned : (c : Client m) (w : Work m) (p : Place m) (d : Client m) (n : ℕ) (why : Refusal) → IsRefused m c w p d n why → In c → Turned (refuses m d n why)
  refuses_turned c w _ _ _ _ (RecordForgotten y bs p b of) h = Refuses _ (cause.Forgotten p b) refl (record { hosted = h.0; dir = h.1; played = h.2 }) (inr (tt, refl)) tt
  refuses_turned c w _ d n why x h = refused d n why h

  tells_takes : (c : Client m) (w : Work m) (p : Place m) (d : Client m) (ns : List (NoteOf m)) → IsTold m c w p d ns → In c → NoneRefused m ns → Takes (replies m d ns)
  tells_takes c w _ _ _ (PlaysOther es p k) h f = Silent refl (record { hosts = record { hosted = h.0; dir = h.1; played = h.2 }; tx = h.3 }) tt
  tells_takes c w _ _ _ (IsMarked n o mark bs p d) h f = replied (took_over m (owns m c p d) c.view) _ _ f
  tells_takes c w _ d _ x h f = replied d _ [] f

  ends_turned : (c : Client m) (w : Work m) (p : Place m) (x : Moved m) → End m c w p x → At' c w p → Turned x
  ends_turned c w p _ (GoesOn d t bs x) h = let k = in_going c w p d t bs x h in On (goes d w t bs k.0 k.1)
  ends_turned c w p _ (LearnsNewer t x) h = On (learns c w t h.0 (in_learning c w p t x h))
  ends_turned c w p _ (Syncs d v os x) h = On (synced d v os (in_synced c w p d v os x h.0))
  ends_turned c w p _ (Appends d e y ns x) h = On (appends_takes c w p d e y ns x h.0)
  ends_turned c w p _ (Refuses' d n why x) h = refuses_turned c w p d n why x h.0
  ends_turned c w p _ (Answers d n what x) h = answered d n what (answer_fine m c w p d n what x (aims p h.1))
  ends_turned c w p _ (Tells d ns x) h = On (tells_takes c w p d ns x h.0 (told_fine m c w p d ns x (aims p h.1)))

  feed_turn : (from : NodeId) (rid : ℕ) (x : Reply) → Fine m c0.work → Turned (feed m c0 c0.work from rid x)
  feed_turn from rid x k = delivered' m At' Turned ends_turned way (over_walks m At' Turned ends_turned walked_way) c0 from rid x (On (still c0 here))
      (λ w t has doing a other. (here, subst (λ (d : Hand m). TaskFine m (task_in m d)) doing (subst (Fine m) has k))) (λ w q has is e. (here, subst (Fine m) has k))
    where
      here : In c0
      here = (refl, refl, refl, refl, k)

  -- Commands.

  module _ (h : In c0) where
    says : (d : Client m) (n : NoteOf m) (ns : List (NoteOf m)) → d.work ≡ c0.work → NoneRefused m (n ∷ ns) → Takes (moved m d (n ∷ ns))
    says d n ns same k = Says n ns refl k (subst (Fine m) (sym same) h.4)

    said_takes : (x : CommandOf m) (d : Client m) (ns : List (NoteOf m)) → IsSaid m c0 x d ns → Takes (moved m d ns)
    said_takes _ _ _ (NoTxOpen x is) = still c0 h
    said_takes _ _ _ (NoViewKept o q t at is at' none) = still c0 h
    said_takes _ _ _ (NoStateKept o q t at v is at' has none) = still c0 h
    said_takes _ _ _ (ReadsOnly t is none) = says (closed m c0) _ _ refl (tt, (tt, tt))
    said_takes _ d _ s = says d _ [] refl (tt, tt)

    taken_takes : (x : CommandOf m) (y : Moved m) → Taken' m c0 x y → Takes y
    taken_takes _ _ (SaidAtOnce x d ns s) = said_takes x d ns s
    taken_takes _ _ (SyncsFirst x k) = synced c0 (new_work m x) c0.hosted h
    taken_takes _ _ (AppendsRecord t _ has some (ForWrites e)) = appended_so c0 (new_work m cmd.End) (commit_record t c0.num) Writes _ _ tt (tt, tt)
    taken_takes _ _ (AppendsRecord t y has some k) = appended_so c0 (new_work m cmd.End) (commit_record t c0.num) y _ _ tt (tt, tt)
    taken_takes _ _ x = Silent refl (record { hosts = record { hosted = h.0; dir = h.1; played = h.2 }; tx = h.3 }) tt

    pub accept_takes : (x : CommandOf m) → Takes (accepts m c0 x)
    accept_takes x = taken_takes x (accepts m c0 x) (taken m c0 x)

-- The turns of a client.
module _ (m : Meaning) (c : Client m) (fine : Fine m c.work) where
  -- a command in a step is refused at once, and the client keeps all but the count of its steps, or it is taken and not refused
  pub data Commands (t : ClientTurn m) : Type 0 where
    AtOnce : (n : ℕ) (why : Refusal) → t.notes ≡ note m n (told.Refused why) ∷ [] → t.now ≡ record c { calls = c.calls + 1 } → Commands t
    Taken : t.notes ≡ [] → Kept m c t.now → Fine m t.now.work → Commands t
    Told : (n : NoteOf m) (ns : List (NoteOf m)) → t.notes ≡ n ∷ ns → NoneRefused m (n ∷ ns) → Fine m t.now.work → Commands t

  -- what the turn makes of the client
  pub data Delivers (t : ClientTurn m) : Type 0 where
    Quiet : t.notes ≡ [] → Kept m c t.now → Fine m t.now.work → Delivers t
    Replied : (n : NoteOf m) (ns : List (NoteOf m)) → t.notes ≡ n ∷ ns → NoneRefused m (n ∷ ns) → Fine m t.now.work → Delivers t
    Refused' : (n : ℕ) (why : Refusal) → t.notes ≡ note m n (told.Refused why) ∷ [] → KeepsHosts m c t.now → KeepsTx m why c t.now → Fine m t.now.work → Delivers t

  pub commanded : (x : CommandOf m) → Commands (client_command m c x)
  unfolding client_command
  commanded x = by (refusal m c x)
    where
      taken : Takes m c (accepts m c x) → Commands (given m c (accepts m c x))
      taken (Silent e k f) = Taken e (record { hosts = record { hosted = k.hosts.hosted; dir = k.hosts.dir; played = k.hosts.played }; tx = k.tx }) f
      taken (Says n ns e k f) = Told n ns e k f

      by : (o : Option Refusal) → Commands (given m c (refused_or m c x o))
      by None = taken (accept_takes m c (refl, refl, refl, refl, fine) x)
      by (Some why) = AtOnce (number_on m c why) why refl refl

  pub delivered : (from : NodeId) (rid : ℕ) (x : Msg) → Delivers (client_deliver m c from rid x)
  unfolding client_deliver
  delivered from rid x = by (feed m c c.work from rid (reply x)) (feed_turn m c from rid (reply x) fine)
    where
      by : (y : Moved m) → Turned m c y → Delivers (given m c y)
      by y (On (Silent e k f)) = Quiet e (record { hosts = record { hosted = k.hosts.hosted; dir = k.hosts.dir; played = k.hosts.played }; tx = k.tx }) f
      by y (On (Says n ns e k f)) = Replied n ns e k f
      by y (Refuses n why e k t f) = Refused' n why e (record { hosted = k.hosted; dir = k.dir; played = k.played }) t f

  pub ticked : Delivers (client_tick m c)
  unfolding client_tick
  ticked = by c.work refl
    where
      by : (w : Option (Work m)) → c.work ≡ w → Delivers (tick_by m c w)
      by None is = Quiet refl (record { hosts = record { hosted = refl; dir = refl; played = refl }; tx = refl }) fine
      by (Some w) is = Quiet refl (record { hosts = record { hosted = refl; dir = refl; played = refl }; tx = refl }) fine
