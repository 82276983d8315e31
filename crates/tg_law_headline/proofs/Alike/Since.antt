-- Through each of a client's turns: what its work has been told since its command began, and so what its replies speak of.
use Rattle.std.proofs.Common.{◌≡◌, ℕ, ◌+◌, ◌<◌, ◌≤◌, List, [], ◌∷◌, Bool, true, refl, sym, ap, ◌∙◌, subst, inl, inr, arith, Option, Some, None}
use Rattle.std.specs.Prelude.{nat_lt, ◌==◌, ◌&&◌}
use Rattle.tg_base.specs.Orders.{node_eq}
use Rattle.tg_base.specs.declared.msg.Msg.{Msg}
use Rattle.tg_base.specs.declared.msg.Msg.TheVariants as msg
use Rattle.tg_base.specs.declared.packet.Out.{Out}
use Rattle.tg_base.specs.Layouts.{Layout}
use Rattle.tg_base.specs.declared.ids.NodeId.{NodeId}
use Rattle.tg_base.specs.declared.ids.Oid.{Oid}
use Rattle.tg_entry.specs.declared.entry.Entry.{Entry}
use Rattle.tg_kind.specs.Meaning.{Meaning}
use Rattle.tg_model.specs.declared.command.Command.TheVariants as cmd
use Rattle.tg_model.specs.declared.play.PlayEnd.TheVariants.{Played}
use Rattle.tg_model.specs.declared.refusal.Refusal.{Refusal}
use Rattle.tg_model.specs.declared.refusal.Refusal.TheVariants as cause
use Rattle.tg_model.specs.declared.trace.What.TheVariants as told
use Rattle.tg_model.specs.Kinds.{CommandOf, WhatOf, NoteOf}
use Rattle.tg_protocol.specs.Words.{directory, unit_id, layout_id}
use Rattle.tg_protocol.specs.Requests.{out, awaits, Turn}
use Rattle.tg_protocol.specs.Replies.{Reply, reply, IsLatest, IsWhole}
use Rattle.tg_protocol.specs.Appending.{append_start}
use Rattle.tg_protocol.specs.Syncing.{sync_start}
use Rattle.tg_protocol.specs.Trimming.{trim_start, has_stripe, CopyWork, Looking, Copying, copy_work_asks, copy_asks, copy_start}
use Rattle.tg_protocol.specs.Reconfiguring.{Reconf, ReconfEnd}
use Rattle.tg_protocol.specs.Views.{Entries, View, Play, state_of, play}
use Rattle.tg_protocol.specs.Clients.{Purpose, Decides, Rescues, Saves, Marks, Task, Syncing, Walking, Appending, Trimming, Copying', Reconfiguring, Hand, Doing, Learning, Work, Client, all_entries}
use Rattle.tg_protocol.specs.Answers.{Moved, note, appends, syncs, own_view, play_target, mark_notes, floor_of}
use Rattle.tg_protocol.specs.ClientSteps as step
use Rattle.tg_protocol.specs.ClientSteps.{task_in, task_asks, task_awaited, stands, accepts, refused_or}
use Rattle.tg_law_layouts.proofs.Moves.Members.{Has}
use Rattle.tg_law_replies.specs.Replies.Steps.{EachDelivery}
use Rattle.tg_law_headline.proofs.Alike.Appends.{is_whole, Asked, asked, Issued, AppendOk, NextOk, append_on, feed_ok, again_ok}
use Rattle.tg_law_headline.proofs.Alike.Machines.{TailTold, SyncOk, SyncNext, sync_ok, sync_start_ok, CopyOk, CopyNext, copy_fed, copy_start_ok}
use Rattle.tg_law_headline.proofs.Alike.Refusals.{NotOvertaken, Fine, fine_copy}
use Rattle.tg_law_headline.proofs.Alike.Trims.{TrimsOk, AllTold, TrimNext, trim_start_ok, trim_fed}
use Rattle.tg_law_headline.proofs.Alike.Reconfs.{InstallTold, OvertakeTold, News, StartOk, ReconfNext, ReconfFits, reconf_ok, latest_ok, reconf_start_ok}
use Rattle.tg_law_layouts.proofs.Moves.Ways.{way_up}
use Rattle.tg_law_replies.proofs.Replies.Ways.{EachAt, each_way, each_fed, each_newer}
use Rattle.tg_law_steps.proofs.Places.{Place, Feeds, Newer, OnSync, OnWalk, OnAppend, OnTrims, OnCopy, OnReconf, Over, Walks, Plays, Looks as LooksAt, Rescues as Rescues'}
use Rattle.tg_law_steps.proofs.Ways.{sync_fed, append_fed, trims_fed, copy_fed as copy_fed', reconf_fed, reconf_newer, Way, NewerSync, NewerWalk, NewerAppend, NewerTrims, NewerCopy, NewerReconf, AllWalked, HasPlayed, LooksBack, IsRescue}
use Rattle.tg_law_steps.proofs.Ends.{Judges, Commit', Abort', End, GoesOn, LearnsNewer, Syncs, Appends, Refuses, Answers, Tells, IsGoing, TrimsGo, TrimsBegin, IsLearning, SyncLearns, AppendLearns, TrimsLearn, CopyLearns, IsSynced, JudgedAt, IsAppended, EndDecides, SaveBegins, MarkBegins, IsRefused, ReconfOvertaken, CopyFault, IsAnswered, DecidedAt, DecidedLost, JudgedSo, JudgedLost, IsSaved, AreTrimmed, EndJudged, TrimZero, IsTold, IsRescued, IsMarked, IsCopied, IsInstalled, PlaysOther}
use Rattle.tg_law_steps.proofs.Takes.{IsFor, ForWrites, ForJudged, IsSaid, NoTxOpen, NoViewKept, NoStateKept, ReadsOnly, Taken, SaidAtOnce, SyncsFirst, AppendsRecord, ReconfBegins, CopyBegins, said_work, taken}
use Rattle.tg_law_steps.proofs.Along.{NoLatest, delivered, over_walks}

-- how a client plays its own view, once its streams are walked
abbrev pub own_play : (m : Meaning) → Client m → Work m → Play m
own_play m c w = play m (own_view m c w (all_entries m c w c.hosted)) (all_entries m c w c.hosted) (play_target m w w.command)

-- the floor that a client that trims sees then in its directory
abbrev pub SeesFloor : (m : Meaning) → (ℕ → ℕ → Type 0) → Client m → Work m → Type 0
SeesFloor m Floor c w = (t : ℕ) → w.command ≡ cmd.Trim → (own_play m c w).came ≡ Played t → Floor w.tail (floor_of m (state_of m (own_play m c w).view directory))

-- What a client got, of which node and with which number, and what it has asked so. Its command began with this number, in this
-- epoch. At a tail the directory has this floor. Walks are those of a log's entries.
module _ (m : Meaning) (Got AskSent : NodeId → ℕ → Msg → Type 0) (lo e0 me : ℕ) (Known : Layout → Type 0) (Floor : ℕ → ℕ → Type 0) (objects : List Oid) (es : Entries) where
  -- a unit answered that it has a stripe
  pub record CopyTold (u r s : ℕ) : Type 0 where
    pub layout : Layout
    pub known : Known layout
    pub rid : ℕ
    pub now : lo ≤ rid
    pub look : AskSent (unit_id u) rid (has_stripe layout.epoch layout r s)
    pub whole : Got (unit_id u) rid msg.Whole

  -- a checkpoint's reply: its position was issued, and its tail told
  pub record SaveTold (p u : ℕ) : Type 0 where
    pub end : ℕ
    pub issued : Issued Got lo end p
    pub tail : TailTold Got lo u

  -- a trim in hand: its tail was told, and it is up to the directory's floor there
  pub record TrimHeld (tail n : ℕ) : Type 0 where
    pub told : TailTold Got lo tail
    pub floor : Floor tail n

  -- a trim's reply
  pub record TrimSaid (n : ℕ) : Type 0 where
    pub tail : ℕ
    pub held : TrimHeld tail n
    pub all : AllTold Got AskSent e0 Known n

  abbrev pub SayOk : WhatOf m → Type 0
  SayOk (told.Saved o p u) = SaveTold p u
  SayOk (told.Trimmed n) = TrimSaid n
  SayOk (told.Installed e) = InstallTold Got lo e0 me Known e
  SayOk (told.Copied u r s) = CopyTold u r s
  SayOk (told.Marked o j) = ⊥
  SayOk (told.Refused (cause.Overtaken e)) = OvertakeTold Got lo e0 me Known e
  SayOk what = Unit {0}

  abbrev pub EachSays : List (NoteOf m) → Type 0
  EachSays ns = (n : NoteOf m) → Has ns n → SayOk n.what

  -- a mark is told right after its own transaction's commit, and in no other turn
  pub data AllSay : List (NoteOf m) → Type 0 where
    Each : {ns : List (NoteOf m)} → EachSays ns → AllSay ns
    Marking : (x : ℕ) (o : Oid) (j p : ℕ) → 0 < x → AllSay (note m x (told.Committed p) ∷ note m 0 (told.Marked o j) ∷ [])

  -- what an append is for
  abbrev pub Fits : Purpose m → Type 0
  Fits (Decides what) = SayOk what
  Fits (Rescues what) = SayOk what
  Fits (Saves o u) = TailTold Got lo u
  Fits (Marks x o j) = 0 < x
  Fits y = Unit {0}

  abbrev pub TaskHeld : ℕ → ℕ → Task m → Type 0
  TaskHeld next tail (Syncing s) = SyncOk Got lo s.work
  TaskHeld next tail (Walking k os) = TailTold Got lo tail
  TaskHeld next tail (Appending a y) = AppendOk Got lo next a × Fits y
  TaskHeld next tail (Trimming t) = TrimHeld tail t.below × TrimsOk Got AskSent e0 Known t.below t.waits
  TaskHeld next tail (Copying' x) = CopyOk lo x.work
  TaskHeld next tail (Reconfiguring r) = StartOk Got lo e0 me Known r.stand r.work

  -- while it learns a newer layout
  abbrev pub LearnHeld : ℕ → ℕ → Task m → Type 0
  LearnHeld next tail (Syncing s) = Unit {0}
  LearnHeld next tail (Walking k os) = TailTold Got lo tail
  LearnHeld next tail (Appending a y) = AppendOk Got lo next a × Fits y
  LearnHeld next tail (Trimming t) = TrimHeld tail t.below
  LearnHeld next tail (Copying' x) = Unit {0}
  LearnHeld next tail (Reconfiguring r) = StartOk Got lo e0 me Known r.stand r.work

  abbrev pub HandHeld : ℕ → ℕ → Hand m → Type 0
  HandHeld next tail (Doing t) = TaskHeld next tail t
  HandHeld next tail (Learning ws t) = LearnHeld next tail t

  abbrev pub WorkHeld : ℕ → Option (Work m) → Type 0
  WorkHeld next None = Unit {0}
  WorkHeld next (Some w) = HandHeld next w.tail w.hand

  abbrev pub Held : Client m → Type 0
  Held c = WorkHeld c.next c.work

  learn_of : (next tail : ℕ) (d : Hand m) → HandHeld next tail d → LearnHeld next tail (task_in m d)
  learn_of next tail (Doing (Syncing s)) k = tt
  learn_of next tail (Doing (Walking v os)) k = k
  learn_of next tail (Doing (Appending a y)) k = k
  learn_of next tail (Doing (Trimming t)) k = k.0
  learn_of next tail (Doing (Copying' x)) k = tt
  learn_of next tail (Doing (Reconfiguring r)) k = k
  learn_of next tail (Learning ws t) k = k

  -- with a later number
  task_on : (next later tail : ℕ) (t : Task m) → next ≤ later → TaskHeld next tail t → TaskHeld later tail t
  task_on next later tail (Syncing s) le k = k
  task_on next later tail (Walking v os) le k = k
  task_on next later tail (Appending a y) le k = (append_on Got lo next later a le k.0, k.1)
  task_on next later tail (Trimming t) le k = k
  task_on next later tail (Copying' x) le k = k
  task_on next later tail (Reconfiguring r) le k = k

  learn_on : (next later tail : ℕ) (t : Task m) → next ≤ later → LearnHeld next tail t → LearnHeld later tail t
  learn_on next later tail (Syncing s) le k = tt
  learn_on next later tail (Walking v os) le k = k
  learn_on next later tail (Appending a y) le k = (append_on Got lo next later a le k.0, k.1)
  learn_on next later tail (Trimming t) le k = k
  learn_on next later tail (Copying' x) le k = tt
  learn_on next later tail (Reconfiguring r) le k = k

  pub work_on : (next later : ℕ) (w : Option (Work m)) → next ≤ later → WorkHeld next w → WorkHeld later w
  work_on next later None le k = tt
  work_on next later (Some w) le k = by w.hand k
    where
      by : (d : Hand m) → HandHeld next w.tail d → HandHeld later w.tail d
      by (Doing t) k = task_on next later w.tail t le k
      by (Learning ws t) k = learn_on next later w.tail t le k

  pub record Good (x : Moved m) : Type 0 where
    pub held : Held x.now
    pub says : AllSay x.notes

  abbrev Le : Client m → Type 0
  Le c = lo ≤ c.next

  -- where it stands is known, and not before its command began
  abbrev Stands : Client m → Type 0
  Stands c = Known c.stand × (e0 ≤ c.stand.epoch)

  abbrev Sees : Client m → Work m → Type 0
  Sees = SeesFloor m Floor

  each_none : EachSays []
  each_none n i = absurd i

  each_and : (k : NoteOf m) (ns : List (NoteOf m)) → SayOk k.what → EachSays ns → EachSays (k ∷ ns)
  each_and k ns s rest n (inl e) = subst (λ (z : NoteOf m). SayOk z.what) (sym e) s
  each_and k ns s rest n (inr i) = rest n i

  each_one : (k : NoteOf m) → SayOk k.what → EachSays (k ∷ [])
  each_one k s = each_and k [] s each_none

  none_says : AllSay []
  none_says = Each each_none

  one_says : (k : NoteOf m) → SayOk k.what → AllSay (k ∷ [])
  one_says k s = Each (each_one k s)

  -- a refusal other than that
  say_refused : (why : Refusal) → NotOvertaken why → SayOk (told.Refused why)
  say_refused (cause.Overtaken e) n = absurd n
  say_refused why n = tt

  -- Along a turn.

  abbrev HereFed : Client m → Work m → ℕ → ℕ → Reply → Task m → Type 0
  HereFed c w n rid x (Syncing s) = SyncNext Got lo (sync_fed m c s n x).to
  HereFed c w n rid x (Walking v os) = TailTold Got lo w.tail
  HereFed c w n rid x (Appending a y) = NextOk Got lo (append_fed m c a n x).next (append_fed m c a n x).to × Fits y
  HereFed c w n rid x (Trimming t) = TrimHeld w.tail t.below × TrimNext Got AskSent e0 Known t.below (trims_fed m c t n x).to
  HereFed c w n rid x (Copying' y) = CopyNext lo (CopyTold y.unit y.range y.stripe) (copy_fed' m c y n x).to
  HereFed c w n rid x (Reconfiguring r) = ReconfNext Got lo e0 me Known (reconf_fed m c r n rid x).to

  abbrev HereNewer : Client m → Work m → ℕ → ℕ → Layout → Task m → Type 0
  HereNewer c w n rid q (Syncing s) = Unit {0}
  HereNewer c w n rid q (Walking v os) = TailTold Got lo w.tail
  HereNewer c w n rid q (Appending a y) = AppendOk Got lo c.next a × Fits y
  HereNewer c w n rid q (Trimming t) = TrimHeld w.tail t.below
  HereNewer c w n rid q (Copying' y) = Unit {0}
  HereNewer c w n rid q (Reconfiguring r) = ReconfNext Got lo e0 me Known (reconf_newer m c r n rid q).to

  abbrev Here : Client m → Work m → Place m → Type 0
  Here c w (Feeds t n rid x) = HereFed c w n rid x t
  Here c w (Newer t n rid q) = (Known q × (e0 ≤ q.epoch)) × HereNewer c w n rid q t
  Here c w (OnSync bs to) = SyncNext Got lo to
  Here c w (OnWalk o os to) = TailTold Got lo w.tail
  Here c w (OnAppend y bs to) = NextOk Got lo c.next to × Fits y
  Here c w (OnTrims b to) = TrimHeld w.tail b × TrimNext Got AskSent e0 Known b to
  Here c w (OnCopy y to) = CopyNext lo (CopyTold y.unit y.range y.stripe) to
  Here c w (OnReconf to) = ReconfNext Got lo e0 me Known to
  Here c w (Over o os x g) = TailTold Got lo w.tail
  Here c w (Walks os) = TailTold Got lo w.tail
  Here c w (Plays own p) = TailTold Got lo w.tail × ((t : ℕ) → w.command ≡ cmd.Trim → p.came ≡ Played t → Floor w.tail (floor_of m (state_of m p.view directory)))
  Here c w (LooksAt at o q) = Unit {0}
  Here c w (Rescues' at) = Unit {0}

  abbrev At' : Client m → Work m → Place m → Type 0
  At' c w p = Le c × Stands c × Here c w p × EachAt m objects es Sees c w p

  stands_way : (c : Client m) (w : Work m) (p : Place m) (d : Client m) (v : Work m) (q : Place m) → Way m c w p d v q → Stands c → Here c w p → Stands d
  stands_way c w _ _ _ _ (NewerSync s n rid q) s' h = h.0
  stands_way c w _ _ _ _ (NewerWalk v os n rid q) s' h = h.0
  stands_way c w _ _ _ _ (NewerAppend a y n rid q) s' h = h.0
  stands_way c w _ _ _ _ (NewerTrims t n rid q) s' h = h.0
  stands_way c w _ _ _ _ (NewerCopy y n rid q e) s' h = h.0
  stands_way c w _ _ _ _ x s' h = s'

  here_way : (c : Client m) (w : Work m) (p : Place m) (d : Client m) (v : Work m) (q : Place m) → Way m c w p d v q → Le c → Here c w p → Here d v q
  here_way c w _ _ _ _ (NewerSync s n rid q) l h = sync_start_ok Got lo s.oids c.next l
  here_way c w _ _ _ _ (NewerWalk v os n rid q) l h = h.1
  here_way c w _ _ _ _ (NewerAppend a y n rid q) l h = ((again_ok Got q lo a c.next l h.1.0).1, h.1.1)
  here_way c w _ _ _ _ (NewerTrims t n rid q) l h = (h.1, trim_start_ok Got AskSent e0 Known q t.below c.next h.0.0 h.0.1)
  here_way c w _ _ _ _ (NewerCopy y n rid q e) l h = copy_start_ok lo (CopyTold y.unit y.range y.stripe) y.unit y.range y.stripe c.next
  here_way c w _ _ _ _ (NewerReconf r n rid q) l h = h.1
  here_way c w _ _ _ _ x l h = h

  way : (c : Client m) (w : Work m) (p : Place m) (d : Client m) (v : Work m) (q : Place m) → Way m c w p d v q → At' c w p → At' d v q
  way c w p d v q x h = (let l = h.0 in let u = way_up m c w p d v q x in omega (arith, l, u), stands_way c w p d v q x h.1 h.2, here_way c w p d v q x h.0 h.2, each_way m objects es Sees c w p d v q x h.3)

  walked_way : (c : Client m) (w : Work m) (d : Client m) (q : Place m) → AllWalked m c w d q → At' c w (Walks []) → At' d w q
  walked_way c w _ _ (HasPlayed k) h = (h.0, h.1, (h.2, h.3), tt)
  walked_way c w _ _ (LooksBack at o q of) h = (h.0, h.1, tt, tt)
  walked_way c w _ _ (IsRescue at of) h = (h.0, h.1, tt, tt)

  judges_say : (own : Entries) (v : View m) (p : ℕ) (e : Entry) (so : Bool) (what : WhatOf m) → Judges m own v p e so what → SayOk what
  judges_say own v p e _ _ (Commit' k) = tt
  judges_say own v p e _ _ (Abort' x k u i) = tt

  marks_say : (x : ℕ) (o : Oid) (n : ℕ) → AllSay (mark_notes m x o n)
  marks_say x o n = Each (each_and (note m x told.Begin) (note m x (told.Put directory (m.mark_op o n)) ∷ note m x told.End ∷ []) tt
      (each_and (note m x (told.Put directory (m.mark_op o n))) (note m x told.End ∷ []) tt (each_one (note m x told.End) tt)))

  goes_held : (c : Client m) (w : Work m) (p : Place m) (d : Client m) (t : Task m) (bs : List Out) → IsGoing m c w p d t bs → Stands c → Here c w p → TaskHeld d.next w.tail t
  unfolding trim_start
  goes_held c w _ _ _ _ (TrimsGo b t) s h = (subst (TrimHeld w.tail) (sym h.1.0) h.0, subst (λ (n : ℕ). TrimsOk Got AskSent e0 Known n t.waits) (sym h.1.0) h.1.1)
  goes_held c w _ _ _ _ (TrimsBegin own p t of came z) s h =
      let floor = floor_of m (state_of m p.view directory) in
      (record { told = h.0; floor = h.1 t of came }, (trim_start_ok Got AskSent e0 Known c.stand floor c.next s.0 s.1).1)
  goes_held c w _ _ _ _ x s h = h

  learns_held : (c : Client m) (w : Work m) (p : Place m) (t : Task m) → IsLearning m c w p t → Here c w p → LearnHeld (c.next + c.layouts) w.tail t
  learns_held c w _ _ (SyncLearns bs s) h = tt
  learns_held c w _ _ (AppendLearns y bs a) h = (append_on Got lo c.next (c.next + c.layouts) a (omega arith) h.0, h.1)
  learns_held c w _ _ (TrimsLearn b t) h = subst (TrimHeld w.tail) (sym h.1) h.0
  learns_held c w _ _ (CopyLearns x y) h = tt
  learns_held c w _ _ x h = h

  synced' : (c : Client m) (w : Work m) (p : Place m) (d : Client m) (v : Work m) (os : List Oid) → IsSynced m c w p d v os → Le c → Good (syncs m d v os)
  unfolding syncs sync_start
  synced' c w _ _ _ _ (JudgedAt bs p d) l = record { held = l; says = none_says }
  synced' c w _ _ _ _ x l = record { held = l; says = none_says }

  appended : (c : Client m) (w : Work m) (p : Place m) (d : Client m) (e : Entry) (y : Purpose m) (ns : List (NoteOf m)) → IsAppended m c w p d e y ns → Le c → Here c w p → Good (appends m d w e y ns)
  unfolding appends append_start
  appended c w _ _ _ _ _ (EndDecides own p t e so what of came is k x) l h = record { held = ((l, tt), judges_say own p.view w.at e so what k); says = none_says }
  appended c w _ _ _ _ _ (SaveBegins own p t o of came small) l h = record { held = ((l, tt), h.0); says = none_says }
  appended c w _ _ _ _ _ (MarkBegins own p t o n of came may) l h = record { held = ((l, tt), omega arith); says = marks_say (c.begun + 1) o n }
  appended c w _ _ _ _ _ x l h = record { held = ((l, tt), tt); says = none_says }

  refused : (c : Client m) (w : Work m) (p : Place m) (d : Client m) (n : ℕ) (why : Refusal) → IsRefused m c w p d n why → Here c w p → SayOk (told.Refused why)
  refused c w _ _ _ _ (ReconfOvertaken e p) h = h
  refused c w _ _ _ _ (CopyFault x n rid q why e) h = say_refused why (subst Fine e (fine_copy m q x.unit x.range x.stripe))
  refused c w _ _ _ _ x h = tt

  is_zero : (n : ℕ) → (n == 0) ≡ true → n ≡ 0
  is_zero n e = grind arith

  answered : (c : Client m) (w : Work m) (p : Place m) (d : Client m) (n : ℕ) (what : WhatOf m) → IsAnswered m c w p d n what → Stands c → Here c w p → SayOk what
  answered c w _ _ _ _ (DecidedAt x bs p d other) s h = h.1
  answered c w _ _ _ _ (DecidedLost x bs e lost other) s h = h.1
  answered c w _ _ _ _ (JudgedSo x bs p d of) s h = h.1
  answered c w _ _ _ _ (JudgedLost x bs e lost of) s h = h.1
  answered c w _ _ _ _ (IsSaved o upto bs p d) s h = record { end = c.next; issued = h.0; tail = h.1 }
  answered c w _ _ _ _ (AreTrimmed b e) s h = record { tail = w.tail; held = h.0; all = h.1 }
  answered c w _ _ _ _ (EndJudged own p t e so what of came is k x) s h = judges_say own p.view w.at e so what k
  answered c w _ _ _ _ (TrimZero own p t of came z) s h = record {
    tail = w.tail;
    held = record { told = h.0; floor = h.1 t of came };
    all = record { layout = c.stand; known = s.0; later = s.1; units = λ u i. inl (is_zero (floor_of m (state_of m p.view directory)) z) };
  }
  answered c w _ _ _ _ x s h = tt

  tells : (c : Client m) (w : Work m) (p : Place m) (d : Client m) (ns : List (NoteOf m)) → IsTold m c w p d ns → Here c w p → AllSay ns
  tells c w _ _ _ (IsRescued x bs p d) h = one_says (note m 0 x) h.1
  tells c w _ _ _ (IsMarked n o mark bs p d) h = Marking n o mark p h.1
  tells c w _ _ _ (IsCopied x e) h = one_says _ h
  tells c w _ _ _ (IsInstalled e p) h = one_says _ h
  tells c w _ _ _ (PlaysOther own p k) h = none_says
  tells c w _ _ _ x h = one_says _ tt

  ends_good : (c : Client m) (w : Work m) (p : Place m) (x : Moved m) → End m c w p x → At' c w p → Good x
  ends_good c w p _ (GoesOn d t bs x) h = record { held = goes_held c w p d t bs x h.1 h.2; says = none_says }
  ends_good c w p _ (LearnsNewer t x) h = record { held = learns_held c w p t x h.2; says = none_says }
  ends_good c w p _ (Syncs d v os x) h = synced' c w p d v os x h.0
  ends_good c w p _ (Appends d e y ns x) h = appended c w p d e y ns x h.0 h.2
  ends_good c w p _ (Refuses d n why x) h = record { held = tt; says = one_says (note m n (told.Refused why)) (refused c w p d n why x h.2) }
  ends_good c w p _ (Answers d n what x) h = record { held = tt; says = one_says (note m n what) (answered c w p d n what x h.1 h.2) }
  ends_good c w p _ (Tells d ns x) h = record { held = tt; says = tells c w p d ns x h.2 }

  -- Deliveries.

  -- what is known of a reconfiguration in hand
  abbrev pub TaskFits : Layout → Task m → Type 0
  TaskFits p (Reconfiguring r) = ReconfFits Got lo e0 me Known r × (r.stand ≡ p)
  TaskFits p t = Unit {0}

  -- a message of a node comes
  module _ (from : NodeId) (rid : ℕ) (y : Msg) (got : Got from rid y) (latest : (q : Layout) → reply y ≡ IsLatest q → y ≡ msg.Latest q) where
    -- what was asked is what is outstanding
    pub record Looks (c : Client m) (t : Task m) : Type 0 where
      pub below : (o : Out) → Has (task_awaited m c.stand t) o → o.rid < c.next
      pub looks : (u : ℕ) (o : Out) → Has (task_awaited m c.stand t) o → o.to ≡ unit_id u → o.to ≡ from → o.rid ≡ rid → AskSent o.to o.rid o.msg

    -- the layout that the message tells, where the client stands
    abbrev pub Hears : Client m → Type 0
    Hears c = (q : Layout) → y ≡ msg.Latest q → News Got lo e0 me Known c.stand q

    module _ (c : Client m) (w : Work m) (l : Le c) (stand : Known c.stand) (up : e0 ≤ c.stand.epoch) (hears : Hears c) where
      look_asked : (x : Copying) (r : ℕ) (p : Layout) → Asked (copy_work_asks p x (Looking r)) from rid → (unit_id x.unit ≡ from) × (r ≡ rid)
      unfolding copy_work_asks
      look_asked x r p a = by a.of a.has a.to a.number
        where
          by : (o : Out) → Has (out (unit_id x.unit) r (has_stripe p.epoch p x.range x.stripe) ∷ []) o → o.to ≡ from → o.rid ≡ rid → (unit_id x.unit ≡ from) × (r ≡ rid)
          by o (inl e) t n = (ap (λ (z : Out). z.to) (sym e) ∙ t, ap (λ (z : Out). z.rid) (sym e) ∙ n)
          by o (inr h) t n = absurd h

      look_out : (x : Copying) (r : ℕ) (p : Layout) → Has (copy_work_asks p x (Looking r)) (out (unit_id x.unit) r (has_stripe p.epoch p x.range x.stripe))
      unfolding copy_work_asks
      look_out x r p = inl refl

      copied : (x : Copying) → CopyOk lo x.work → Asked (copy_asks c.stand x) from rid
          → ((u : ℕ) (o : Out) → Has (copy_asks c.stand x) o → o.to ≡ unit_id u → o.to ≡ from → o.rid ≡ rid → AskSent o.to o.rid o.msg) → (r : ℕ) → x.work ≡ Looking r → reply y ≡ IsWhole → CopyTold x.unit x.range x.stripe
      copied x k a looks r is whole =
          let at = look_asked x r c.stand (subst (λ (z : CopyWork). Asked (copy_work_asks c.stand x z) from rid) is a) in
          record {
            layout = c.stand;
            known = stand;
            rid = r;
            now = subst (CopyOk lo) is k;
            look = looks x.unit (out (unit_id x.unit) r (has_stripe c.stand.epoch c.stand x.range x.stripe)) (subst (λ (z : CopyWork). Has (copy_work_asks c.stand x z) (out (unit_id x.unit) r (has_stripe c.stand.epoch c.stand x.range x.stripe))) (sym is) (look_out x r c.stand)) refl at.0 at.1;
            whole = subst (λ (n : ℕ). Got (unit_id x.unit) n msg.Whole) (sym at.1) (subst (λ (z : NodeId). Got z rid msg.Whole) (sym at.0) (subst (Got from rid) (is_whole y whole) got));
          }

      fed_here : (t : Task m) → TaskHeld c.next w.tail t → Asked (task_awaited m c.stand t) from rid → TaskFits c.stand t → Looks c t → HereFed c w from.num rid (reply y) t
      unfolding task_asks
      fed_here (Syncing s) k a f looks = sync_ok Got lo c.stand s k from rid y got from.num c.next a
      fed_here (Walking v os) k a f looks = k
      fed_here (Appending a' z) k a f looks = ((feed_ok Got c.stand lo a' from.num c.next from rid y k.0 got (let b = looks.below a.of a.has in let e = a.number in omega (arith, b, e)) a).1, k.1)
      fed_here (Trimming t) k a f looks = (k.0, trim_fed Got AskSent e0 Known c.stand t k.1 from rid y got c.next a looks.looks)
      fed_here (Copying' x) k a f looks = copy_fed lo (CopyTold x.unit x.range x.stripe) c.stand x k from.num c.next (reply y) (copied x k a looks.looks) l
      fed_here (Reconfiguring r) k a f looks = reconf_ok Got lo e0 me Known r k f.0 from.num from rid y c.next got a

      -- a newer layout that is told
      newly : (q : Layout) → reply y ≡ IsLatest q → c.stand.epoch < q.epoch → Known q × (e0 ≤ q.epoch)
      newly q is newer = ((hears q (latest q is)).known, omega (arith, newer, up))

      newer_here : (t : Task m) (q : Layout) → reply y ≡ IsLatest q → c.stand.epoch < q.epoch → LearnHeld c.next w.tail t → TaskFits c.stand t → HereNewer c w from.num rid q t
      newer_here (Syncing s) q is newer k f = tt
      newer_here (Walking v os) q is newer k f = k
      newer_here (Appending a z) q is newer k f = k
      newer_here (Trimming t) q is newer k f = k
      newer_here (Copying' x) q is newer k f = tt
      newer_here (Reconfiguring r) q is newer k f =
          let e = ap (λ (p : Layout). p.epoch) f.1 in
          latest_ok Got lo e0 me Known r k f.0 from.num rid q c.next l (omega (arith, newer, e)) (subst (λ (p : Layout). News Got lo e0 me Known p q) (sym f.1) (hears q (latest q is))) from (subst (Got from rid) (latest q is) got)

    -- of work that may be none
    abbrev pub WorkFits : Client m → Option (Work m) → Type 0
    WorkFits c None = Unit {0}
    WorkFits c (Some w) = TaskFits c.stand (task_in m w.hand) × ((t : Task m) → w.hand ≡ Doing t → Looks c t)

    less_of : (b : Bool) (i j : ℕ) → (b && nat_lt i j) ≡ true → i < j
    less_of b i j h = grind arith

    fed_good : (c : Client m) → Le c → Stands c → Hears c → Held c → WorkFits c c.work → EachDelivery m objects es Sees c c.work from rid (reply y) → Good (step.feed m c c.work from rid (reply y))
    fed_good c l s hears k f each = delivered m At' Good ends_good way (over_walks m At' Good ends_good walked_way) c from rid (reply y) (record { held = k; says = none_says }) feeds newer
      where
        fits : (w : Work m) → c.work ≡ Some w → TaskFits c.stand (task_in m w.hand) × ((t : Task m) → w.hand ≡ Doing t → Looks c t)
        fits w has = subst (WorkFits c) has f

        feeds : (w : Work m) (t : Task m) → c.work ≡ Some w → w.hand ≡ Doing t → awaits (task_awaited m c.stand t) from rid ≡ true → NoLatest (reply y) → At' c w (Feeds t from.num rid (reply y))
        feeds w t has doing a other =
            let held = subst (HandHeld c.next w.tail) doing (subst (WorkHeld c.next) has k) in
            let task = subst (λ (d : Hand m). TaskFits c.stand (task_in m d)) doing (fits w has).0 in
            (l, s, fed_here c w l s.0 s.1 hears t held (asked (task_awaited m c.stand t) from rid a) task ((fits w has).1 t doing), each_fed m objects es Sees c from rid (reply y) each w t has doing a other)

        newer : (w : Work m) (q : Layout) → c.work ≡ Some w → reply y ≡ IsLatest q → (node_eq from (layout_id from.num) && nat_lt c.stand.epoch q.epoch) ≡ true → At' c w (Newer (task_in m w.hand) from.num rid q)
        newer w q has is e =
            let later = less_of (node_eq from (layout_id from.num)) c.stand.epoch q.epoch e in
            (l, s, (newly c w l s.0 s.1 hears q is later, newer_here c w l s.0 s.1 hears (task_in m w.hand) q is later (learn_of c.next w.tail w.hand (subst (WorkHeld c.next) has k)) (fits w has).0), each_newer m objects es Sees c from rid (reply y) each w q has is e)

    pub feed_good : (c : Client m) (o : Option (Work m)) → c.work ≡ o → lo ≤ c.next → Known c.stand → e0 ≤ c.stand.epoch → Hears c → Held c → WorkFits c o
        → EachDelivery m objects es Sees c o from rid (reply y) → Good (step.feed m c o from rid (reply y))
    feed_good c o is l stand up hears k f each =
        subst (λ (z : Option (Work m)). WorkFits c z → EachDelivery m objects es Sees c z from rid (reply y) → Good (step.feed m c z from rid (reply y))) is (λ f each. fed_good c l (stand, up) hears k f each) f each

  -- Commands.

  takes_good : (c : Client m) (x : CommandOf m) → c.work ≡ None → Le c → (y : Moved m) → Taken m c x y → Good y
  unfolding syncs sync_start appends append_start copy_start
  takes_good c _ free l _ (SaidAtOnce x d ns s) = record { held = subst (WorkHeld d.next) (sym (said_work m c x d ns s ∙ free)) tt; says = said x d ns s }
    where
      said : (x : CommandOf m) (d : Client m) (ns : List (NoteOf m)) → IsSaid m c x d ns → AllSay ns
      said _ _ _ (NoTxOpen x is) = none_says
      said _ _ _ (NoViewKept o q t at is a b) = none_says
      said _ _ _ (NoStateKept o q t at v is a b e) = none_says
      said _ _ _ (ReadsOnly t is e) = Each (each_and (note m t.number told.End) (note m t.number (told.Committed (step.snapshot_or m t.snapshot)) ∷ []) tt (each_one (note m t.number (told.Committed (step.snapshot_or m t.snapshot))) tt))
      said _ _ _ s = one_says _ tt
  takes_good c _ free l _ (SyncsFirst x k) = record { held = l; says = none_says }
  takes_good c _ free l _ (AppendsRecord t y is e k) = record { held = ((l, tt), purpose y k); says = one_says (note m t.number told.End) tt }
    where
      purpose : (y : Purpose m) → IsFor m t y → Fits y
      purpose _ (ForWrites e) = tt
      purpose _ (ForJudged e) = tt
  takes_good c _ free l _ (ReconfBegins x n r e) =
      record { held = subst (λ (t : Turn Reconf ReconfEnd). ReconfNext Got lo e0 me Known t.to) e (reconf_start_ok Got lo e0 me Known c.stand c.layouts x c.num c.next); says = none_says }
  takes_good c _ free l _ (CopyBegins u r s) = record { held = copy_start_ok lo (CopyTold u r s) u r s c.next; says = none_says }

  pub command_good : (c : Client m) (x : CommandOf m) (o : Option Refusal) → (o ≡ None → c.work ≡ None) → Fine o → lo ≤ c.next → Held c → Good (refused_or m c x o)
  command_good c x None free f l k = takes_good c x (free refl) l (accepts m c x) (taken m c x)
  command_good c x (Some why) free f l k = record { held = k; says = one_says _ (say_refused why f) }
