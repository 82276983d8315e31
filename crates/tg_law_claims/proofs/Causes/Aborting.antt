-- Through each of a client's turns: what it tells of a transaction that was aborted.
use Rattle.std.proofs.Common.{◌≡◌, ℕ, List, [], ◌∷◌, refl, sym, subst, Option, Some, None}
use Rattle.tg_base.specs.declared.ids.NodeId.{NodeId}
use Rattle.tg_base.specs.declared.ids.Oid.{Oid}
use Rattle.tg_base.specs.declared.msg.Msg.{Msg}
use Rattle.tg_base.specs.declared.packet.Out.{Out}
use Rattle.tg_entry.specs.declared.entry.Entry.{Entry}
use Rattle.tg_kind.specs.Meaning.{Meaning}
use Rattle.tg_model.specs.declared.command.Command.TheVariants as cmd
use Rattle.tg_model.specs.declared.play.PlayEnd.TheVariants.{Played}
use Rattle.tg_model.specs.declared.refusal.Refusal.{Refusal}
use Rattle.tg_model.specs.declared.trace.What.TheVariants as told
use Rattle.tg_model.specs.Kinds.{CommandOf, WhatOf, NoteOf}
use Rattle.tg_entry.specs.Needs.{reads_of}
use Rattle.tg_protocol.specs.Versions.{Changed}
use Rattle.tg_protocol.specs.Replies.{Reply, reply}
use Rattle.tg_protocol.specs.Appending.{append_start}
use Rattle.tg_protocol.specs.Syncing.{sync_start}
use Rattle.tg_protocol.specs.Views.{Entries, View, Play, play, changed_in, unknown_in}
use Rattle.tg_protocol.specs.Past.{commit_at}
use Rattle.tg_protocol.specs.Clients.{Purpose, Decides, Rescues, Task, Appending, Hand, Work, Client, all_entries, refusal}
use Rattle.tg_protocol.specs.Answers.{Moved, appends, syncs, own_view, play_target, aborted}
use Rattle.tg_protocol.specs.ClientSteps.{task_in, lost, feed, accepts, refused_or, given, ClientTurn, client_command, client_deliver, client_tick, tick_by}
use Rattle.tg_law_replies.specs.Replies.Steps.{EachDelivery}
use Rattle.tg_law_replies.proofs.Replies.Ways.{EachAt, each_way, each_fed, each_newer}
use Rattle.tg_law_steps.proofs.Places.{Place, Feeds, Newer, OnAppend, Walks, Plays, Looks, Rescues as Rescues'}
use Rattle.tg_law_steps.proofs.Ways.{Way, FeedsAppend, NewerAppend, MetHigh, StartsOver, AllWalked, HasPlayed}
use Rattle.tg_law_steps.proofs.Ends.{End, GoesOn, LearnsNewer, Syncs, Appends, Refuses, Answers, Tells, IsGoing, AppendGoes, IsLearning, AppendLearns, IsAppended, EndDecides, SaveBegins, MarkBegins, Commit', Abort', IsAnswered, DecidedAt, DecidedLost, JudgedSo, JudgedLost, EndJudged, IsTold, IsRescued, IsMarked, PlaysOther}
use Rattle.tg_law_steps.proofs.Takes.{IsSaid, Begins, Taken, SaidAtOnce, AppendsRecord, ForWrites, said_work, taken}
use Rattle.tg_law_steps.proofs.Along.{delivered as delivered', over_walks}

-- What is asked of each reply, and of each answer that waits for its decision record; of the view that is kept; and where a step's walks
-- are over, of an `end` that is aborted.
module _ (m : Meaning) where
  abbrev pub NotAborted : WhatOf m → Type 0
  NotAborted (told.Aborted p o k seen now) = ⊥
  NotAborted what = Unit {0}

  abbrev pub NoneAborted : List (NoteOf m) → Type 0
  NoneAborted [] = Unit {0}
  NoneAborted (n ∷ ns) = NotAborted n.what × NoneAborted ns

module _ (m : Meaning) (objects : List Oid) (es : Entries) (Ok : WhatOf m → Type 0) (ok : (what : WhatOf m) → NotAborted m what → Ok what) (ViewOk : Option (View m) → Type 0) (no_view : ViewOk None) where
  abbrev pub EachOk : List (NoteOf m) → Type 0
  EachOk [] = Unit {0}
  EachOk (n ∷ ns) = Ok n.what × EachOk ns

  each_ok : (ns : List (NoteOf m)) → NoneAborted m ns → EachOk ns
  each_ok [] k = tt
  each_ok (n ∷ ns) k = (ok n.what k.0, each_ok ns k.1)

  abbrev pub PurposeOk : Purpose m → Type 0
  PurposeOk (Decides what) = Ok what
  PurposeOk (Rescues what) = Ok what
  PurposeOk y = Unit {0}

  abbrev pub TaskOk : Task m → Type 0
  TaskOk (Appending a y) = PurposeOk y
  TaskOk t = Unit {0}

  abbrev pub WorkOk : Option (Work m) → Type 0
  WorkOk None = Unit {0}
  WorkOk (Some w) = TaskOk (task_in m w.hand)

  pub record Good (x : Moved m) : Type 0 where
    pub notes : EachOk x.notes
    pub work : WorkOk x.now.work

  -- a client within the step, once it has played, and before
  abbrev pub At' : Client m → Type 0
  At' c = WorkOk c.work

  abbrev pub In : Client m → Type 0
  In c = ViewOk c.view × WorkOk c.work

  -- what an `end` tells that has played, and is aborted
  abbrev pub EndOk : Client m → Work m → Entries → Play m → Type 0
  EndOk c w own y = (t : ℕ) (e : Entry) (x : Changed) → y.came ≡ Played t → commit_at own w.at ≡ Some e → unknown_in m y.view (reads_of e) w.at ≡ None →
      changed_in m y.view (reads_of e) w.at ≡ Some x → Ok (aborted m w.at x)

  abbrev pub Ends' : Client m → Work m → Type 0
  Ends' c w = In c → w.command ≡ cmd.End →
      EndOk c w (all_entries m c w c.hosted) (play m (own_view m c w (all_entries m c w c.hosted)) (all_entries m c w c.hosted) (play_target m w w.command))

  -- Along a turn.

  -- until the command has played
  abbrev Inside : Client m → Place m → Type 0
  Inside c (Plays es p) = Unit {0}
  Inside c (Looks at o q) = Unit {0}
  Inside c (Rescues' at) = Unit {0}
  Inside c p = In c

  -- what it is to tell, and how it may end
  abbrev Aim : Client m → Work m → Place m → Type 0
  Aim c w (Feeds t n rid x) = TaskOk t
  Aim c w (Newer t n rid q) = TaskOk t
  Aim c w (OnAppend y bs to) = PurposeOk y
  Aim c w (Plays es' p) = w.command ≡ cmd.End → EndOk c w es' p
  Aim c w p = Unit {0}

  abbrev Here : Client m → Work m → Place m → Type 0
  Here c w p = Inside c p × Aim c w p × EachAt m objects es Ends' c w p

  inside_way : (c : Client m) (w : Work m) (p : Place m) (d : Client m) (v : Work m) (q : Place m) → Way m c w p d v q → Inside c p → Inside d q
  inside_way c w _ _ _ _ (MetHigh o os x b e f k) h = (no_view, h.1)
  inside_way c w _ _ _ _ (StartsOver o os x b e f k) h = (no_view, h.1)
  inside_way c w _ _ _ _ x h = h

  aim_way : (c : Client m) (w : Work m) (p : Place m) (d : Client m) (v : Work m) (q : Place m) → Way m c w p d v q → Aim c w p → Aim d v q
  aim_way c w _ _ _ _ (FeedsAppend a y n rid x) h = h
  aim_way c w _ _ _ _ (NewerAppend a y n rid q) h = h
  aim_way c w _ _ _ _ x h = tt

  way : (c : Client m) (w : Work m) (p : Place m) (d : Client m) (v : Work m) (q : Place m) → Way m c w p d v q → Here c w p → Here d v q
  way c w p d v q x h = (inside_way c w p d v q x h.0, aim_way c w p d v q x h.1, each_way m objects es Ends' c w p d v q x h.2)

  walked_way : (c : Client m) (w : Work m) (d : Client m) (q : Place m) → AllWalked m c w d q → Here c w (Walks []) → Here d w q
  walked_way c w _ _ (HasPlayed k) h = (tt, h.2 h.0, tt)
  walked_way c w _ _ x h = (tt, tt, tt)

  going_ok : (c : Client m) (w : Work m) (p : Place m) (d : Client m) (t : Task m) (bs : List Out) → IsGoing m c w p d t bs → Aim c w p → TaskOk t
  going_ok c w _ _ _ _ (AppendGoes y bs a) k = k
  going_ok c w _ _ _ _ x k = tt

  learning_ok : (c : Client m) (w : Work m) (p : Place m) (t : Task m) → IsLearning m c w p t → Aim c w p → TaskOk t
  learning_ok c w _ _ (AppendLearns y bs a) k = k
  learning_ok c w _ _ x k = tt

  appended_ok : (c : Client m) (w : Work m) (p : Place m) (d : Client m) (e : Entry) (y : Purpose m) (ns : List (NoteOf m)) → IsAppended m c w p d e y ns → Aim c w p → PurposeOk y × EachOk ns
  appended_ok c w _ _ _ _ _ (EndDecides es' p upto e _ _ of came i (Commit' v) l) k = (ok _ tt, tt)
  appended_ok c w _ _ _ _ _ (EndDecides es' p upto e _ _ of came i (Abort' x v u n) l) k = (k of upto e x came i u n, tt)
  appended_ok c w _ _ _ _ _ (SaveBegins es' p upto o of came l) k = (tt, tt)
  appended_ok c w _ _ _ _ _ (MarkBegins es' p upto o n of came may) k = (tt, (ok _ tt, (ok _ tt, (ok _ tt, tt))))
  appended_ok c w _ _ _ _ _ x k = (ok _ tt, tt)

  answered_ok : (c : Client m) (w : Work m) (p : Place m) (d : Client m) (n : ℕ) (what : WhatOf m) → IsAnswered m c w p d n what → Aim c w p → Ok what
  answered_ok c w _ _ _ _ (DecidedAt x bs p d no_end) k = k
  answered_ok c w _ _ _ _ (DecidedLost x bs e lost no_end) k = k
  answered_ok c w _ _ _ _ (JudgedSo x bs p d of) k = k
  answered_ok c w _ _ _ _ (JudgedLost x bs e lost of) k = k
  answered_ok c w _ _ _ _ (EndJudged es' p upto e _ _ of came i (Commit' v) l) k = ok _ tt
  answered_ok c w _ _ _ _ (EndJudged es' p upto e _ _ of came i (Abort' x v u n) l) k = k of upto e x came i u n
  answered_ok c w _ _ _ _ x k = ok _ tt

  told_ok : (c : Client m) (w : Work m) (p : Place m) (d : Client m) (ns : List (NoteOf m)) → IsTold m c w p d ns → Aim c w p → EachOk ns
  told_ok c w _ _ _ (IsRescued x bs p d) k = (k, tt)
  told_ok c w _ _ _ (IsMarked n o mark bs p d) k = (ok _ tt, (ok _ tt, tt))
  told_ok c w _ _ _ (PlaysOther es' p is) k = tt
  told_ok c w _ _ _ x k = (ok _ tt, tt)

  ends_good : (c : Client m) (w : Work m) (p : Place m) (x : Moved m) → End m c w p x → Here c w p → Good x
  unfolding appends append_start syncs sync_start
  ends_good c w p _ (GoesOn d t bs x) h = record { notes = tt; work = going_ok c w p d t bs x h.1 }
  ends_good c w p _ (LearnsNewer t x) h = record { notes = tt; work = learning_ok c w p t x h.1 }
  ends_good c w p _ (Syncs d v os x) h = record { notes = tt; work = tt }
  ends_good c w p _ (Appends d e y ns x) h = let k = appended_ok c w p d e y ns x h.1 in record { notes = k.1; work = k.0 }
  ends_good c w p _ (Refuses d n why x) h = record { notes = (ok (told.Refused why) tt, tt); work = tt }
  ends_good c w p _ (Answers d n what x) h = record { notes = (answered_ok c w p d n what x h.1, tt); work = tt }
  ends_good c w p _ (Tells d ns x) h = record { notes = told_ok c w p d ns x h.1; work = tt }

  feed_turn : (c : Client m) (from : NodeId) (rid : ℕ) (x : Reply) → In c → EachDelivery m objects es Ends' c c.work from rid x → Good (feed m c c.work from rid x)
  feed_turn c from rid x h r = delivered' m Here Good ends_good way (over_walks m Here Good ends_good walked_way) c from rid x (record { notes = tt; work = h.1 })
      (λ w t has doing a other. (h, subst (λ (d : Hand m). TaskOk (task_in m d)) doing (subst WorkOk has h.1), each_fed m objects es Ends' c from rid x r w t has doing a other))
      (λ w q has is e. (h, subst WorkOk has h.1, each_newer m objects es Ends' c from rid x r w q has is e))

  -- Commands.

  said_fine : (c : Client m) (x : CommandOf m) (d : Client m) (ns : List (NoteOf m)) → IsSaid m c x d ns → NoneAborted m ns
  said_fine c _ _ _ Begins = (tt, tt)
  said_fine c _ _ _ s = assumption

  taken_good : (c : Client m) → At' c → (x : CommandOf m) (y : Moved m) → Taken m c x y → Good y
  unfolding appends append_start syncs sync_start
  taken_good c h _ _ (SaidAtOnce x d ns s) = record { notes = each_ok ns (said_fine c x d ns s); work = subst WorkOk (sym (said_work m c x d ns s)) h }
  taken_good c h _ _ (AppendsRecord t _ has some (ForWrites e)) = record { notes = (ok _ tt, tt); work = tt }
  taken_good c h _ _ (AppendsRecord t _ has some k) = record { notes = (ok _ tt, tt); work = tt }
  taken_good c h _ _ x = record { notes = tt; work = tt }

  -- The turns.

  pub record GoodTurn (t : ClientTurn m) : Type 0 where
    pub notes : EachOk t.notes
    pub work : WorkOk t.now.work

  pub commanded : (c : Client m) (x : CommandOf m) → At' c → GoodTurn (client_command m c x)
  unfolding client_command
  commanded c x h = by (refusal m c x)
    where
      given' : (y : Moved m) → Good y → GoodTurn (given m c y)
      given' y g = record { notes = g.notes; work = g.work }

      by : (o : Option Refusal) → GoodTurn (given m c (refused_or m c x o))
      by None = given' (accepts m c x) (taken_good c h x (accepts m c x) (taken m c x))
      by (Some why) = record { notes = (ok (told.Refused why) tt, tt); work = h }

  pub delivered : (c : Client m) (from : NodeId) (rid : ℕ) (x : Msg) → In c → EachDelivery m objects es Ends' c c.work from rid (reply x) → GoodTurn (client_deliver m c from rid x)
  unfolding client_deliver
  delivered c from rid x h r = let g = feed_turn c from rid (reply x) h r in record { notes = g.notes; work = g.work }

  pub ticked : (c : Client m) → At' c → GoodTurn (client_tick m c)
  unfolding client_tick
  ticked c h = by c.work refl
    where
      by : (w : Option (Work m)) → c.work ≡ w → GoodTurn (tick_by m c w)
      by None is = record { notes = tt; work = h }
      by (Some w) is = record { notes = tt; work = h }
