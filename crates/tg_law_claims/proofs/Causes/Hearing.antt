-- Through each of a client's turns: the tail that its command was told, and the trims that its walks have met; and where it tells of
-- something undecided, its walks are over.
use Rattle.std.proofs.Common.{◌≡◌, ◌⊎◌, ℕ, ◌≤◌, List, [], ◌∷◌, true, false, refl, sym, ◌∙◌, subst, inl, inr, arith, Option, Some, None}
use Rattle.std.specs.Prelude.{Contains}
use Rattle.tg_base.specs.Layouts.{Layout}
use Rattle.tg_base.specs.declared.ids.NodeId.{NodeId}
use Rattle.tg_base.specs.declared.ids.Oid.{Oid}
use Rattle.tg_base.specs.declared.marks.StreamLink.{StreamLink}
use Rattle.tg_base.specs.declared.packet.Out.{Out}
use Rattle.tg_entry.specs.declared.entry.Entry.{Entry}
use Rattle.tg_kind.specs.Meaning.{Meaning}
use Rattle.tg_model.specs.declared.command.Command.TheVariants as cmd
use Rattle.tg_model.specs.declared.refusal.Refusal.{Refusal}
use Rattle.tg_model.specs.declared.refusal.Refusal.TheVariants as cause
use Rattle.tg_model.specs.declared.trace.What.TheVariants as told
use Rattle.tg_model.specs.Kinds.{CommandOf, WhatOf, NoteOf}
use Rattle.tg_base.specs.Orders.{with_oid}
use Rattle.tg_protocol.specs.Requests.{Turn, awaits, Next, Goes, Learns, Ends}
use Rattle.tg_protocol.specs.Replies.{Reply, IsTail}
use Rattle.tg_protocol.specs.Cells.{CellJob, Gone, cell_feed, cell_asks}
use Rattle.tg_protocol.specs.Appending.{append_start}
use Rattle.tg_protocol.specs.Syncing.{SyncWork, Checking, Settling, Probing, Sync, Confirmed, sync_start, sync_feed}
use Rattle.tg_protocol.specs.Walking.{Walk, Members}
use Rattle.tg_protocol.specs.Trimming.{trim_start}
use Rattle.tg_protocol.specs.Entries.{link_of, backs_of}
use Rattle.tg_protocol.specs.Logs.{Log, path}
use Rattle.tg_protocol.specs.Transactions.{commit_record}
use Rattle.tg_protocol.specs.Clients.{Purpose, Writes, Task, Syncing, Walking, Appending, Hand, Doing, Work, Client}
use Rattle.tg_protocol.specs.Answers.{Moved, moved, replies, refuses, answers, appends, syncs, trim_begun, walked, with_view}
use Rattle.tg_protocol.specs.ClientSteps.{task_in, task_awaited, goes_on, learns_for, takes_back, found_by, start_walk, lasts_of, trims_with, lo_for, knows, owns, feed, new_work, accepts, refused_or}
use Rattle.tg_protocol.specs.Walked.{Walked, walks_end, work_end}
use Rattle.tg_law_layouts.proofs.Moves.Members.{Has, has_either}
use Rattle.tg_law_replies.proofs.History.Members.{contained_has}
use Rattle.tg_law_walks.specs.Walks.Streams.{AreFalling, AreKnown, AreLinked}
use Rattle.tg_law_walks.specs.Walks.Walks.{JobEndsAs}
use Rattle.tg_law_walks.specs.Walks.Rounds.{round, IsConfirmed, IsAtWalk, IsAtTask, IsAtWork}
use Rattle.tg_law_walks.specs.Walks.Laws.{SyncEndsAs}
use Rattle.tg_law_walks.proofs.Walks.Cells.{more_known}
use Rattle.tg_law_syncs.proofs.Known.Ways.{Came, Rests, Appends, Syncs, Trims as Trims', WalkedWay, Plays, LeavesView, played_view, walked_way}
use Rattle.tg_law_claims.proofs.Causes.OnPaths.{IsRead, next_on_path, WalkOn, NextOn, start_on, again_on, feed_on}
use Rattle.tg_law_claims.proofs.Causes.Refusing.{NotUndecided, NotFound, Fine, FineCopy, fine_copy}
use Rattle.tg_law_claims.proofs.Causes.Stalling.{Plain, PlainNotes, Brief, BriefNotes, brief_notes, PlainPurpose, PlainWork, widens, StreamsFit, WorkStreams, Said, walked_so}
use Rattle.tg_law_layouts.proofs.Moves.Ways.{way_up}
use Rattle.tg_law_steps.proofs.Places.{Place, Feeds, Newer, OnSync, OnWalk, OnAppend, Over, Walks, Plays, Looks, Rescues as Rescues'}
use Rattle.tg_law_steps.proofs.Ways.{Way, FeedsSync, FeedsWalk, FeedsAppend, NewerSync, NewerWalk, NewerAppend, Confirms, Settles, EndsAtOnce, WalkEnds, MetNone, MetLow, MetHigh, StartsOver}
use Rattle.tg_law_steps.proofs.Ends.{End, GoesOn, LearnsNewer, Syncs as Syncs', Appends as Appends', Refuses, Answers, Tells, IsGoing, SyncGoes, WalkGoes, WalkBegins, AppendGoes, IsLearning, SyncLearns, WalkLearns, AppendLearns, IsSynced, JudgedAt, StaleLow, StaleHigh, Widens, IsAppended, RescueDecides, IsRefused, RecordFull, RecordForgotten, OtherFull, OtherForgotten, ReconfOvertaken, ReconfNotWhole, CopyFault, IsAnswered, DecidedAt, DecidedLost, JudgedSo, JudgedLost, IsSaved, AreTrimmed, IsTold, IsCommitted, IsRescued, IsMarked, IsCopied, IsInstalled}
use Rattle.tg_law_steps.proofs.Takes.{IsSaid, Begins, Taken, SaidAtOnce, SyncsFirst, AppendsRecord, ForWrites, said_work, taken}
use Rattle.tg_law_steps.proofs.Along.{delivered}
use Rattle.tg_law_steps.proofs.Reaches.{reaches, reach_way, reach_fed, reach_newer}
use Rattle.tg_law_steps.proofs.Machines.Syncs.{Fed as SyncFed, SettlesLast, ProbesLast, sync_fed as sync_turned}

later : (low a b : ℕ) → low ≤ a → a ≤ b → low ≤ b
later low a b le u = omega (arith, le, u)

-- Syncs: a tail was told, with the last positions of its streams.
module _ (Tail : ℕ → List StreamLink → Type 0) (low : ℕ) where
  abbrev pub SyncHeard : SyncWork → Type 0
  SyncHeard (Checking r) = low ≤ r
  SyncHeard (Settling a j) = Tail a.tail a.lasts
  SyncHeard (Probing a j) = Tail a.tail a.lasts

  abbrev pub SyncComes : Next Sync Confirmed → Type 0
  SyncComes (Goes s) = SyncHeard s.work
  SyncComes (Learns s) = SyncHeard s.work
  SyncComes (Ends x) = Tail x.tail x.lasts

  -- the tail that an answer tells
  abbrev pub AnswerTells : SyncWork → Reply → Type 0
  AnswerTells (Checking r) x = low ≤ r → (t : ℕ) (ls : List StreamLink) → x ≡ IsTail t ls → Tail t ls
  AnswerTells w x = Unit {0}

  turn_ok : (p : Layout) (n : ℕ) (x : Reply) (next : ℕ) (s : Sync) (t : Turn Sync Confirmed) → SyncFed p n x next s t → SyncHeard s.work → AnswerTells s.work x → SyncComes t.to
  turn_ok p n x next _ _ (SettlesLast os r t ls is named e) k tells = tells k t ls is
  turn_ok p n x next _ _ (ProbesLast os r t ls is named e) k tells = tells k t ls is
  turn_ok p n x next _ _ z k tells = k

  pub sync_ok : (p : Layout) (s : Sync) → SyncHeard s.work → (n : ℕ) (x : Reply) (next : ℕ) → AnswerTells s.work x → SyncComes (sync_feed p s s.work n x next).to
  sync_ok p s ok n x next tells = turn_ok p n x next s _ (sync_turned p n x next s) ok tells

module _ (m : Meaning) (l : Log) (linked : AreLinked l) (low : ℕ) (Tail : ℕ → List StreamLink → Type 0) (Met : Oid → Type 0) where
  abbrev pub AllMet : List (Oid × ℕ) → Type 0
  AllMet ts = (x : Oid × ℕ) → Has ts x → Met x.0

  -- of a client that hosts these objects
  abbrev pub TaskHeld : List Oid → Work m → Task m → Type 0
  TaskHeld hs w (Syncing s) = SyncHeard Tail low s.work × AllMet w.trims × StreamsFit m hs w
  TaskHeld hs w (Walking k os) = Tail w.tail w.lasts × WalkOn l linked low k.oid (lasts_of m w k.oid) k × AllMet w.trims × StreamsFit m hs w
  TaskHeld hs w (Appending a y) = PlainPurpose m y
  TaskHeld hs w t = Unit {0}

  abbrev pub WorkHeld : List Oid → Option (Work m) → Type 0
  WorkHeld hs None = Unit {0}
  WorkHeld hs (Some w) = TaskHeld hs w (task_in m w.hand)

  pub record Good (x : Moved m) : Type 0 where
    pub held : WorkHeld x.now.hosted x.now.work
    pub notes : PlainNotes m x.notes

  -- where the walks of a command are over
  pub record EndOk (y : Walked m) : Type 0 where
    pub tail : Tail y.work.tail y.work.lasts
    pub met : AllMet y.work.trims
    pub next : low ≤ y.client.next
    pub streams : StreamsFit m y.client.hosted y.work

  pub data Comes (x : Moved m) (end : Option (Walked m)) : Type 0 where
    Plainly : Good x → Comes x end
    Ended : (y : Walked m) → end ≡ Some y → x ≡ walked m y.client y.work → EndOk y → Comes x end

  none_met : AllMet []
  none_met x i = absurd i

  with_met : (ts : List (Oid × ℕ)) (o : Oid) (g : Option ℕ) → ((b : ℕ) → g ≡ Some b → Met o) → AllMet ts → AllMet (trims_with m ts o g)
  with_met ts o None f k = k
  with_met ts o (Some b) f k = λ x i. by x (has_either ts ((o, b) ∷ []) x i)
    where
      by : (x : Oid × ℕ) → Has ts x ⊎ Has ((o, b) ∷ []) x → Met x.0
      by x (inl i) = k x i
      by x (inr (inl same)) = subst (λ (y : Oid × ℕ). Met y.0) (sym same) (f b refl)
      by x (inr (inr i)) = absurd i

  -- What a turn makes.

  still : (c : Client m) → WorkHeld c.hosted c.work → Good (moved m c [])
  still c h = record { held = h; notes = tt }

  goes : (c : Client m) (w : Work m) (t : Task m) (bs : List Out) → TaskHeld c.hosted w t → Good (goes_on m c w t bs)
  goes c w t bs k = record { held = k; notes = tt }

  learns : (c : Client m) (w : Work m) (t : Task m) → TaskHeld c.hosted w t → Good (learns_for m c w t)
  learns c w t k = record { held = k; notes = tt }

  replied' : (c : Client m) (ns : List (NoteOf m)) → PlainNotes m ns → Good (replies m c ns)
  replied' c ns k = record { held = tt; notes = k }

  refused : (c : Client m) (n : ℕ) (why : Refusal) → Plain m (told.Refused why) → Good (refuses m c n why)
  refused c n why k = record { held = tt; notes = (k, tt) }

  answered : (c : Client m) (n : ℕ) (what : WhatOf m) → Plain m what → Good (answers m c n what)
  answered c n what k = record { held = tt; notes = (k, tt) }

  appended : (c : Client m) (w : Work m) (e : Entry) (y : Purpose m) (ns : List (NoteOf m)) → PlainPurpose m y → PlainNotes m ns → Good (appends m c w e y ns)
  unfolding appends append_start
  appended c w e y ns k f = record { held = k; notes = f }

  synced' : (c : Client m) (w : Work m) (os : List Oid) → low ≤ c.next → (widens m w.command ≡ false → os ≡ c.hosted) → Good (syncs m c w os)
  unfolding syncs sync_start
  synced' c w os le fit = record { held = (le, none_met, fit); notes = tt }

  abbrev MovedHeld : Moved m → Type 0
  MovedHeld x = WorkHeld x.now.hosted x.now.work

  abbrev MovedStreams : Moved m → Type 0
  MovedStreams x = WorkStreams m x.now.hosted x.now.work

  syncs_held : (c : Client m) (w : Work m) (os : List Oid) → low ≤ c.next → MovedStreams (syncs m c w os) → MovedHeld (syncs m c w os)
  unfolding syncs sync_start
  syncs_held c w os le fit = (le, none_met, fit)

  trims_held : (c : Client m) (w : Work m) (below : ℕ) → MovedHeld (trim_begun m c w below (trim_start c.stand below c.next))
  unfolding trim_start
  trims_held c w below = tt

  plain_refused : (why : Refusal) → NotFound why → Plain m (told.Refused why)
  plain_refused (cause.Undecided p o) k = absurd k
  plain_refused (cause.NoCheckpoint o) k = absurd k
  plain_refused (cause.OpenDecision p) k = absurd k
  plain_refused (cause.NotHosted o) k = absurd k
  plain_refused why k = tt

  brief_refused : (why : Refusal) → NotUndecided why → Brief m (told.Refused why)
  brief_refused (cause.Undecided p o) k = absurd k
  brief_refused (cause.NoCheckpoint o) k = absurd k
  brief_refused (cause.OpenDecision p) k = absurd k
  brief_refused why k = tt

  -- Where all streams are walked.

  walked_said : (c : Client m) (w : Work m) → Said m (λ d what. Unit {0}) (λ d what k. tt) (walked m c w)
  walked_said c w = walked_so m (λ d what. Unit {0}) (λ d what k. tt) c w (record {
    undecided = λ d p o k s u i. tt;
    unsure = λ d q o i s u le f. tt;
    none = λ d t i j k. tt;
    same = λ d t e i j k a b f. tt;
    past = λ d p o q v r x i s j k. tt;
    no_save = λ d o n i s f. tt;
    is_open = λ d o n p i s f. tt;
    no_state = λ d o q i s f. tt;
    no_past = λ d p o q v i j f. tt;
    rescue = λ d p q x i j. tt;
  })

  appends_plain : (c : Client m) (w : Work m) (e : Entry) (y : Purpose m) (ns : List (NoteOf m)) → PlainWork m (appends m c w e y ns).now.work → MovedHeld (appends m c w e y ns)
  unfolding appends append_start
  appends_plain c w e y ns k = k

  came_held : (d : Client m) (w : Work m) (x : Moved m) → low ≤ d.next → PlainWork m x.now.work → MovedStreams x → Came m d w x → MovedHeld x
  came_held d w x le k f (Rests s i) = subst (WorkHeld x.now.hosted) (sym i) tt
  came_held d w x le k f (Appends g s n e y ns is) = subst MovedHeld (sym is) (appends_plain g w e y ns (subst (λ (z : Moved m). PlainWork m z.now.work) is k))
  came_held d w x le k f (Syncs o is) = subst MovedHeld (sym is) (syncs_held d w (with_oid o w.oids) le (subst MovedStreams is f))
  came_held d w x le k f (Trims' below is) = subst MovedHeld (sym is) (trims_held d w below)

  walked_held : (c : Client m) (w : Work m) → low ≤ c.next → MovedHeld (walked m c w)
  walked_held c w le = by (walked_way m c w)
    where
      by : WalkedWay m c w (walked m c w) → MovedHeld (walked m c w)
      by (Plays p x) = came_held (with_view m c (played_view m c w)) w (walked m c w) le (walked_said c w).work (walked_said c w).streams x
      by (LeavesView x) = came_held c w (walked m c w) le (walked_said c w).work (walked_said c w).streams x

  pub comes_held : (x : Moved m) (end : Option (Walked m)) → Comes x end → MovedHeld x
  comes_held x end (Plainly g) = g.held
  comes_held x end (Ended y is same k) = subst MovedHeld (sym same) (walked_held y.client y.work k.next)

  -- positions that fall
  record Falling (ps : List ℕ) : Type 0 where
    at : ℕ
    falls : AreFalling at ps

  -- a client that goes on to walk these streams
  record InWalk (os : List Oid) (c : Client m) (w : Work m) : Type 0 where
    known : AreKnown l c.cells
    tail : Tail w.tail w.lasts
    met : AllMet w.trims
    rest : (o : Oid) → Has os o → Falling (lasts_of m w o)
    all : (o : Oid) → Has w.oids o → Falling (lasts_of m w o)
    next : low ≤ c.next
    streams : StreamsFit m c.hosted w

  walking_held : (hs : List Oid) (w : Work m) (o : Oid) (os : List Oid) (x : Walk) → Tail w.tail w.lasts → AllMet w.trims → StreamsFit m hs w → WalkOn l linked low o (lasts_of m w o) x → TaskHeld hs w (Walking x os)
  walking_held hs w o os x t k fit on = (t, subst (λ (s : Oid). WalkOn l linked low s (lasts_of m w s) x) (sym on.so.oid) on, k, fit)

  -- What a client hears.

  -- the cell that is read, at a position of the path, is trimmed
  abbrev pub MetsBy : Client m → Work m → Walk → ℕ → Reply → Type 0
  MetsBy c w k n x = (j : CellJob) (b : ℕ) → k.job ≡ Some j → IsRead j.work → ((y : Out) → Has (cell_asks j) y → low ≤ y.rid) → Has (path l k.oid (lasts_of m w k.oid)) j.place.pos → (cell_feed j n x c.next).to ≡ Ends (Gone b) → Tail w.tail w.lasts → Met k.oid

  abbrev pub TaskHears : Client m → Work m → Task m → ℕ → Reply → Type 0
  TaskHears c w (Syncing s) n x = AnswerTells Tail low s.work x × SyncEndsAs m l (round m c w c.cells) (sync_feed c.stand s s.work n x c.next).to
  TaskHears c w (Walking k os) n x = JobEndsAs l k.job n x c.next × MetsBy c w k n x
  TaskHears c w t n x = Unit {0}

  abbrev pub Hears : Client m → NodeId → ℕ → Reply → Type 0
  Hears c from rid x = (w : Work m) (t : Task m) → c.work ≡ Some w → w.hand ≡ Doing t → awaits (task_awaited m c.stand t) from rid ≡ true → TaskHears c w t from.num x

  falls_of : (c : Client m) (w : Work m) (k : Walk) (os : List Oid) → IsAtWalk m l c w k os → (o : Oid) → Contains w.oids o → Falling (lasts_of m w o)
  falls_of c w k os at o i = record { at = w.tail; falls = (at.round.lists o i).falling }

  -- Along a turn, whose walks end there.
  module _ (end : Option (Walked m)) where
    abbrev Here : Client m → Work m → Place m → Type 0
    Here c w (Feeds t n rid x) = TaskHeld c.hosted w t × IsAtTask m l c w t × TaskHears c w t n x
    Here c w (Newer t n rid q) = TaskHeld c.hosted w t × IsAtTask m l c w t
    Here c w (OnSync bs to) = AreKnown l c.cells × AllMet w.trims × StreamsFit m c.hosted w × SyncComes Tail low to × SyncEndsAs m l (round m c w c.cells) to
    Here c w (OnWalk o os to) =
        Tail w.tail w.lasts × AllMet w.trims × StreamsFit m c.hosted w × ((s : Oid) → Has os s → Falling (lasts_of m w s)) × ((s : Oid) → Has w.oids s → Falling (lasts_of m w s)) × NextOn l linked low o (lasts_of m w o) (λ b. Met o) to
    Here c w (OnAppend y bs to) = PlainPurpose m y
    Here c w (Over o os x g) = InWalk os c w
    Here c w (Walks os) = InWalk os c w
    Here c w (Plays es p) = ⊥
    Here c w (Looks at o q) = ⊥
    Here c w (Rescues' at) = ⊥
    Here c w p = Unit {0}

    abbrev At' : Client m → Work m → Place m → Type 0
    At' c w p = (low ≤ c.next) × Here c w p × (end ≡ reaches m c w p)

    -- a tail is confirmed: its streams are walked
    confirmed : (c : Client m) (w : Work m) (x : Confirmed) → low ≤ c.next → AllMet w.trims → StreamsFit m c.hosted w → Tail x.tail x.lasts → IsConfirmed m l (round m c w c.cells) x → AreKnown l (knows m c x.settled).cells
        → InWalk w.oids (record c { cells = (knows m c x.settled).cells }) (record w { tail = x.tail; lasts = x.lasts; lo = lo_for m c w.command })
    confirmed c w x le mets fit tail is known = record { known = known; tail = tail; met = mets; rest = lists; all = lists; next = le; streams = fit }
      where
        lists : (o : Oid) → Has w.oids o → Falling (backs_of (link_of o x.lasts))
        lists o i = record { at = x.tail; falls = (is.lists o (contained_has w.oids o i)).falling }

    -- a walk that begins
    starts : (c : Client m) (w : Work m) (o : Oid) (os : List Oid) → InWalk (o ∷ os) c w → NextOn l linked low o (lasts_of m w o) (λ b. Met o) (start_walk m c w o).to
    starts c w o os h = let f = h.rest o (inl refl) in start_on l linked low o (lasts_of m w o) (λ b. Met o) c.stand f.at w.lo c.cells c.next h.next f.falls h.known

    walked_on : (c : Client m) (w : Work m) (o : Oid) (os : List Oid) (x : Members) → InWalk (o ∷ os) c w → NextOn l linked low o (lasts_of m w o) (λ b. Met o) (Ends x) → InWalk os (takes_back m c x) (found_by m w o x)
    walked_on c w o os x h on = record { known = on.0; tail = h.tail; met = with_met w.trims o x.gone on.1 h.met; rest = λ s i. h.rest s (inr i); all = h.all; next = h.next; streams = h.streams }

    here_way : (c : Client m) (w : Work m) (p : Place m) (d : Client m) (v : Work m) (q : Place m) → Way m c w p d v q → low ≤ c.next → low ≤ d.next → Here c w p → Here d v q
    unfolding sync_start
    here_way c w _ _ _ _ (FeedsSync s n rid x) le up h = (h.1.known, h.0.1, h.0.2, sync_ok Tail low c.stand s h.0.0 n x c.next h.2.0, h.2.1)
    here_way c w _ _ _ _ (FeedsWalk k os n rid x) le up h = (
      h.0.0,
      h.0.2,
      h.0.3,
      (λ s i. falls_of c w k os h.1 s (h.1.round.left s (contained_has (k.oid ∷ os) s (inr i)))),
      (λ s i. falls_of c w k os h.1 s (contained_has w.oids s i)),
      feed_on l linked low k.oid (lasts_of m w k.oid) (λ b. Met k.oid) c.stand k n x c.next le h.0.1 h.2.0
          (λ j b is on ends. h.2.1 j b is on.read on.now (next_on_path l linked low k.oid (lasts_of m w k.oid) k.trail j.place.pos h.0.1.so.path on.next) ends h.0.0),
    )
    here_way c w _ _ _ _ (FeedsAppend a y n rid x) le up h = h.0
    here_way c w _ _ _ _ (NewerSync s n rid q) le up h = (h.1.known, h.0.1, h.0.2, le, tt)
    here_way c w _ _ _ _ (NewerWalk k os n rid q) le up h = (
      h.0.0,
      h.0.2,
      h.0.3,
      (λ s i. falls_of c w k os h.1 s (h.1.round.left s (contained_has (k.oid ∷ os) s (inr i)))),
      (λ s i. falls_of c w k os h.1 s (contained_has w.oids s i)),
      again_on l linked low k.oid (lasts_of m w k.oid) (λ b. Met k.oid) q k c.next le h.0.1.so,
    )
    here_way c w _ _ _ _ (NewerAppend a y n rid q) le up h = h.0
    here_way c w _ _ _ _ (Confirms bs t ls) le up h = confirmed c w (record { tail = t; lasts = ls; settled = None }) le h.1 h.2 h.3 h.4 h.0
    here_way c w _ _ _ _ (Settles bs t ls s) le up h = confirmed c w (record { tail = t; lasts = ls; settled = Some s }) le h.1 h.2 h.3 h.4 (more_known l c.cells s.0 s.1 h.0 (h.4.settled s.0 s.1 refl))
    here_way c w _ _ _ _ (EndsAtOnce o os x e) le up h = walked_on c w o os x h (subst (NextOn l linked low o (lasts_of m w o) (λ b. Met o)) e (starts c w o os h))
    here_way c w _ _ _ _ (WalkEnds o os x) le up h = record { known = h.5.0; tail = h.0; met = with_met w.trims o x.gone h.5.1 h.1; rest = h.3; all = h.4; next = up; streams = h.2 }
    here_way c w _ _ _ _ (MetNone o os x) le up h = h
    here_way c w _ _ _ _ (MetLow o os x b e f) le up h = h
    here_way c w _ _ _ _ (MetHigh o os x b e f k) le up h = record { known = h.known; tail = h.tail; met = h.met; rest = h.rest; all = h.all; next = h.next; streams = h.streams }
    here_way c w _ _ _ _ (StartsOver o os x b e f k) le up h = record { known = h.known; tail = h.tail; met = none_met; rest = h.all; all = h.all; next = h.next; streams = h.streams }
    here_way c w _ _ _ _ x le up h = tt

    way : (c : Client m) (w : Work m) (p : Place m) (d : Client m) (v : Work m) (q : Place m) → Way m c w p d v q → At' c w p → At' d v q
    way c w p d v q x h =
        let u = way_up m c w p d v q x in
        let le = h.0 in
        let up = later low c.next d.next le u in
        (up, here_way c w p d v q x le up h.1, h.2 ∙ reach_way m c w p d v q x)

    -- where its walks are over
    over : (c : Client m) (w : Work m) → At' c w (Walks []) → Comes (walked m c w) end
    unfolding walks_end
    over c w h = Ended (record { client = c; work = w }) h.2 refl (record { tail = h.1.tail; met = h.1.met; next = h.1.next; streams = h.1.streams })

    -- What it comes to else.

    going_held : (c : Client m) (w : Work m) (p : Place m) (d : Client m) (t : Task m) (bs : List Out) → IsGoing m c w p d t bs → Here c w p → TaskHeld d.hosted w t
    going_held c w _ _ _ _ (SyncGoes bs s) h = (h.3, h.1, h.2)
    going_held c w _ _ _ _ (WalkGoes o os x) h = walking_held c.hosted w o os x h.0 h.1 h.2 h.5
    going_held c w _ _ _ _ (WalkBegins o os x e) h = walking_held c.hosted w o os x h.tail h.met h.streams (subst (NextOn l linked low o (lasts_of m w o) (λ b. Met o)) e (starts c w o os h))
    going_held c w _ _ _ _ (AppendGoes y bs a) h = h
    going_held c w _ _ _ _ x h = tt

    learning_held : (c : Client m) (w : Work m) (p : Place m) (t : Task m) → IsLearning m c w p t → Here c w p → TaskHeld c.hosted w t
    learning_held c w _ _ (SyncLearns bs s) h = (h.3, h.1, h.2)
    learning_held c w _ _ (WalkLearns o os x) h = walking_held c.hosted w o os x h.0 h.1 h.2 h.5
    learning_held c w _ _ (AppendLearns y bs a) h = h
    learning_held c w _ _ x h = tt

    synced_good : (c : Client m) (w : Work m) (p : Place m) (d : Client m) (v : Work m) (os : List Oid) → IsSynced m c w p d v os → low ≤ c.next → Here c w p → Good (syncs m d v os)
    synced_good c w _ _ _ _ (JudgedAt bs p d) le h = synced' (owns m c p d) (record w { at = p }) c.hosted le (λ i. refl)
    synced_good c w _ _ _ _ (StaleLow o os x b e f) le h = synced' c w w.oids le h.streams
    synced_good c w _ _ _ _ (StaleHigh o os x b e f) le h = synced' (record c { view = None }) w w.oids le h.streams
    synced_good c w _ _ _ _ (Widens at o is) le h = absurd h

    appended_never : (c : Client m) (w : Work m) (p : Place m) (d : Client m) (e : Entry) (y : Purpose m) (ns : List (NoteOf m)) → IsAppended m c w p d e y ns → Here c w p → ⊥
    appended_never c w _ _ _ _ _ (RescueDecides at so e is f) h = h
    appended_never c w _ _ _ _ _ x h = h

    refused_plain : (c : Client m) (w : Work m) (p : Place m) (d : Client m) (n : ℕ) (why : Refusal) → IsRefused m c w p d n why → Here c w p → Plain m (told.Refused why)
    refused_plain c w _ _ _ _ (RecordFull y bs i of) h = tt
    refused_plain c w _ _ _ _ (RecordForgotten y bs p b of) h = tt
    refused_plain c w _ _ _ _ (OtherFull y bs n i of) h = tt
    refused_plain c w _ _ _ _ (OtherForgotten y bs n p b of) h = tt
    refused_plain c w _ _ _ _ (ReconfOvertaken e p) h = tt
    refused_plain c w _ _ _ _ (ReconfNotWhole u pos p) h = tt
    refused_plain c w _ _ _ _ (CopyFault x n rid q why e) h = plain_refused why (subst FineCopy e (fine_copy m q x.unit x.range x.stripe))
    refused_plain c w _ _ _ _ x h = absurd h

    answered_plain : (c : Client m) (w : Work m) (p : Place m) (d : Client m) (n : ℕ) (what : WhatOf m) → IsAnswered m c w p d n what → Here c w p → Plain m what
    answered_plain c w _ _ _ _ (DecidedAt x bs p d no_end) h = h
    answered_plain c w _ _ _ _ (DecidedLost x bs e lost no_end) h = h
    answered_plain c w _ _ _ _ (JudgedSo x bs p d of) h = h
    answered_plain c w _ _ _ _ (JudgedLost x bs e lost of) h = h
    answered_plain c w _ _ _ _ (IsSaved o upto bs p d) h = tt
    answered_plain c w _ _ _ _ (AreTrimmed b e) h = tt
    answered_plain c w _ _ _ _ x h = absurd h

    told_plain : (c : Client m) (w : Work m) (p : Place m) (d : Client m) (ns : List (NoteOf m)) → IsTold m c w p d ns → Here c w p → PlainNotes m ns
    told_plain c w _ _ _ (IsCommitted bs p d) h = (tt, tt)
    told_plain c w _ _ _ (IsRescued x bs p d) h = (h, tt)
    told_plain c w _ _ _ (IsMarked n o mark bs p d) h = (tt, (tt, tt))
    told_plain c w _ _ _ (IsCopied x e) h = (tt, tt)
    told_plain c w _ _ _ (IsInstalled e p) h = (tt, tt)
    told_plain c w _ _ _ x h = absurd h

    ends_come : (c : Client m) (w : Work m) (p : Place m) (x : Moved m) → End m c w p x → At' c w p → Comes x end
    ends_come c w p _ (GoesOn d t bs x) h = Plainly (goes d w t bs (going_held c w p d t bs x h.1))
    ends_come c w p _ (LearnsNewer t x) h = Plainly (learns c w t (learning_held c w p t x h.1))
    ends_come c w p _ (Syncs' d v os x) h = Plainly (synced_good c w p d v os x h.0 h.1)
    ends_come c w p _ (Appends' d e y ns x) h = absurd (appended_never c w p d e y ns x h.1)
    ends_come c w p _ (Refuses d n why x) h = Plainly (refused d n why (refused_plain c w p d n why x h.1))
    ends_come c w p _ (Answers d n what x) h = Plainly (answered d n what (answered_plain c w p d n what x h.1))
    ends_come c w p _ (Tells d ns x) h = Plainly (replied' d ns (told_plain c w p d ns x h.1))

  -- A delivery.
  pub feed_comes : (c : Client m) (from : NodeId) (rid : ℕ) → low ≤ c.next → WorkHeld c.hosted c.work → (x : Reply) → Hears c from rid x → IsAtWork m l c c.work → Comes (feed m c c.work from rid x) (work_end m c c.work from rid x)
  feed_comes c from rid le held x hears at =
      delivered m (At' end) (λ y. Comes y end) (ends_come end) (way end) (over end) c from rid x (Plainly (still c held))
      (λ w t has doing a other. (le, (subst (λ (d : Hand m). TaskHeld c.hosted w (task_in m d)) doing (held_of w has), subst (λ (d : Hand m). IsAtTask m l c w (task_in m d)) doing (at_of w has), hears w t has doing a), reach_fed m c from rid x w t has doing a other))
      (λ w q has is e. (le, (held_of w has, at_of w has), reach_newer m c from rid x w q has is e))
    where
      end : Option (Walked m)
      end = work_end m c c.work from rid x

      held_of : (w : Work m) → c.work ≡ Some w → TaskHeld c.hosted w (task_in m w.hand)
      held_of w has = subst (WorkHeld c.hosted) has held

      at_of : (w : Work m) → c.work ≡ Some w → IsAtTask m l c w (task_in m w.hand)
      at_of w has = subst (IsAtWork m l c) has at

  -- A command.

  said_plain : (c : Client m) (x : CommandOf m) (d : Client m) (ns : List (NoteOf m)) → IsSaid m c x d ns → PlainNotes m ns
  said_plain c _ _ _ Begins = (tt, tt)
  said_plain c _ _ _ x = assumption

  taken_good : (c : Client m) (x : CommandOf m) → low ≤ c.next → c.work ≡ None → (y : Moved m) → Taken m c x y → Good y
  taken_good c _ le free _ (SaidAtOnce x d ns s) = record { held = subst (WorkHeld d.hosted) (sym (said_work m c x d ns s ∙ free)) tt; notes = said_plain c x d ns s }
  taken_good c _ le free _ (SyncsFirst x k) = synced' c (new_work m x) c.hosted le (λ i. refl)
  taken_good c _ le free _ (AppendsRecord t _ has some (ForWrites e)) = appended c (new_work m cmd.End) (commit_record t c.num) Writes _ tt (tt, tt)
  taken_good c _ le free _ (AppendsRecord t y has some k) = appended c (new_work m cmd.End) (commit_record t c.num) y _ tt (tt, tt)
  taken_good c _ le free _ x = record { held = tt; notes = tt }

  pub record Given (x : Moved m) : Type 0 where
    pub held : WorkHeld x.now.hosted x.now.work
    pub notes : BriefNotes m x.notes

  pub command_good : (c : Client m) → low ≤ c.next → WorkHeld c.hosted c.work → (x : CommandOf m) (f : Option Refusal) → Fine f → (f ≡ None → c.work ≡ None) → Given (refused_or m c x f)
  command_good c le held x None k free = let g = taken_good c x le (free refl) (accepts m c x) (taken m c x) in record { held = g.held; notes = brief_notes m _ g.notes }
  command_good c le held x (Some why) k free = record { held = held; notes = (brief_refused why k, tt) }
