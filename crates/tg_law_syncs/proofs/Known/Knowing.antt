-- What a client knows of the log, through each of its turns.
use Rattle.std.proofs.Common.{◌≡◌, ℕ, List, [], true, refl, subst, Option, Some, None}
use Rattle.tg_base.specs.Layouts.{Layout}
use Rattle.tg_base.specs.declared.cell.Cell.{Cell}
use Rattle.tg_base.specs.declared.cell.Cell.TheVariants.{Data}
use Rattle.tg_base.specs.declared.ids.NodeId.{NodeId}
use Rattle.tg_base.specs.declared.ids.Oid.{Oid}
use Rattle.tg_base.specs.declared.msg.Msg.{Msg}
use Rattle.tg_kind.specs.Meaning.{Meaning}
use Rattle.tg_model.specs.Kinds.{CommandOf, WhatOf, NoteOf}
use Rattle.tg_model.specs.declared.refusal.Refusal.{Refusal}
use Rattle.tg_protocol.specs.Words.{cell_at}
use Rattle.tg_protocol.specs.Requests.{awaits, Next, Goes, Learns, Ends}
use Rattle.tg_protocol.specs.Replies.{Reply, reply}
use Rattle.tg_protocol.specs.Cells.{CellJob, cell_feed}
use Rattle.tg_protocol.specs.Appending.{append_start}
use Rattle.tg_protocol.specs.Syncing.{Sync, Confirmed, sync_start, sync_feed}
use Rattle.tg_protocol.specs.Walking.{Walk, Members, WalkTurn, read_at, walk_from, walk_start, walk_feed, trail}
use Rattle.tg_protocol.specs.Views.{View}
use Rattle.tg_protocol.specs.Logs.{Log}
use Rattle.tg_protocol.specs.Clients.{Task, Syncing, Walking, Appending, Hand, Doing, Work, Client, refusal}
use Rattle.tg_protocol.specs.Answers.{Moved, pruned, took_over, appends, syncs, keeps}
use Rattle.tg_protocol.specs.ClientSteps.{start_walk, owns, task_in, task_awaited, refused_or, client_command, client_deliver, client_tick, lasts_of, tick_by, feed}
use Rattle.tg_law_layouts.proofs.Moves.Members.{has_contained}
use Rattle.tg_law_walks.specs.Walks.Streams.{AreKnown}
use Rattle.tg_law_walks.specs.Walks.Walks.{EndsAs, JobEndsAs}
use Rattle.tg_law_walks.proofs.Walks.Cells.{more_known, fewer_known}
use Rattle.tg_law_syncs.proofs.Known.Landing.{TokenFits, LandsNext, AppendEndsAs, feed_lands, again_lands}
use Rattle.tg_law_steps.proofs.Places.{Place, Feeds, Newer, OnSync, OnWalk, OnAppend, Walks}
use Rattle.tg_law_steps.proofs.Ways.{Way, FeedsSync, FeedsWalk, FeedsAppend, NewerWalk, NewerAppend, Settles as SettlesCell, EndsAtOnce, WalkEnds, AllWalked, HasPlayed}
use Rattle.tg_law_steps.proofs.Ends.{WalkGoes, WalkBegins, AppendGoes, WalkLearns, AppendLearns, JudgedAt, MarkBegins, IsRefused, RecordFull, IsAnswered, DecidedAt, JudgedSo, IsSaved, IsTold, IsCommitted, IsRescued, IsMarked, End, GoesOn, LearnsNewer, Syncs, Appends, Refuses, Answers, Tells}
use Rattle.tg_law_steps.proofs.Takes.{Begins, Taken, SaidAtOnce}
use Rattle.tg_law_steps.proofs.Along.{delivered, commanded, over_walks}
use Rattle.tg_law_steps.proofs.Machines.Walks.{goes_on, WalkCame, HasRead, MetTrim, walk_came}

-- A walk's cells are the log's where those that it reads are.

module _ (l : Log) where
  abbrev pub WalkKnows : Next Walk Members → Type 0
  WalkKnows (Goes w) = AreKnown l w.cells
  WalkKnows (Learns w) = AreKnown l w.cells
  WalkKnows (Ends x) = AreKnown l x.cells

  pub walks_know : (p : Layout) (next : ℕ) (w : Walk) → AreKnown l w.cells → WalkKnows (walk_from p next w).to
  walks_know p next w k = goes_on p next (λ v. AreKnown l v.cells) (λ t. WalkKnows t.to) (λ v q c e f i. i) (λ v i. i) (λ v q e f i. i) _ w k

  pub starts_know : (p : Layout) (o : Oid) (lasts : List ℕ) (lo : ℕ) (cells : List (ℕ × Cell)) (next : ℕ) → AreKnown l cells → WalkKnows (walk_start p o lasts lo cells next).to
  unfolding walk_start
  starts_know p o lasts lo cells next k = walks_know p next (record { oid = o; lo = lo; cells = cells; trail = trail lasts 0; members = []; job = None }) k

  pub feed_knows : (p : Layout) (w : Walk) (n : ℕ) (x : Reply) (next : ℕ) → JobEndsAs l w.job n x next → AreKnown l w.cells → WalkKnows (walk_feed p w w.job n x next).to
  feed_knows p w n x next h k = by w.job _ (walk_came p w n x next w.job) h
    where
      by : (o : Option CellJob) (t : WalkTurn) → WalkCame p w n x next o t → JobEndsAs l o n x next → WalkKnows t.to
      by _ _ (HasRead j c e) h = walks_know p (cell_feed j n x next).next (read_at w j.place.pos c) (more_known l w.cells j.place.pos c k (subst (EndsAs l j.place.pos) e h))
      by _ _ (MetTrim j b e) h = k
      by _ _ y h = k

-- A client's turns.

module _ (m : Meaning) (l : Log) where
  abbrev pub TaskKnows : Task m → Type 0
  TaskKnows (Walking v os) = AreKnown l v.cells
  TaskKnows (Appending a y) = TokenFits a
  TaskKnows t = Unit {0}

  abbrev pub WorkKnows : Option (Work m) → Type 0
  WorkKnows None = Unit {0}
  WorkKnows (Some w) = TaskKnows (task_in m w.hand)

  -- all cells that it knows are the log's
  pub record Knows (c : Client m) : Type 0 where
    pub cells : AreKnown l c.cells
    pub work : WorkKnows c.work

  -- a confirmed tail's cell is the log's
  abbrev pub Settles : Next Sync Confirmed → Type 0
  Settles (Ends x) = (q : ℕ) (d : Cell) → x.settled ≡ Some (q, d) → cell_at l q ≡ Some d
  Settles x = Unit {0}

  -- what an awaited answer has to tell
  abbrev pub TaskHeard : Client m → Task m → ℕ → Reply → Type 0
  TaskHeard c (Syncing s) n x = Settles (sync_feed c.stand s s.work n x c.next).to
  TaskHeard c (Walking v os) n x = JobEndsAs l v.job n x c.next
  TaskHeard c (Appending a y) n x = AppendEndsAs l a.work n x c.next
  TaskHeard c t n x = Unit {0}

  -- Along a turn.

  abbrev Fine : Moved m → Type 0
  Fine x = Knows x.now

  abbrev pub Rest : Client m → Place m → Type 0
  Rest c (Feeds t n rid x) = TaskKnows t × TaskHeard c t n x
  Rest c (Newer t n rid q) = TaskKnows t
  Rest c (OnSync bs to) = Settles to
  Rest c (OnWalk o os to) = WalkKnows l to
  Rest c (OnAppend y bs to) = LandsNext l to
  Rest c p = Unit {0}

  abbrev pub At : Client m → Work m → Place m → Type 0
  At c w p = AreKnown l c.cells × Rest c p

  begins_known : (c : Client m) (w : Work m) (o : Oid) → AreKnown l c.cells → WalkKnows l (start_walk m c w o).to
  begins_known c w o k = starts_know l c.stand o (lasts_of m w o) w.lo c.cells c.next k

  pub way : (c : Client m) (w : Work m) (p : Place m) (d : Client m) (v : Work m) (q : Place m) → Way m c w p d v q → At c w p → At d v q
  unfolding sync_start
  way c w _ _ _ _ (FeedsSync s n rid x) (k, r) = (k, r.1)
  way c w _ _ _ _ (FeedsWalk s os n rid x) (k, r) = (k, feed_knows l c.stand s n x c.next r.1 r.0)
  way c w _ _ _ _ (FeedsAppend a y n rid x) (k, r) = (k, feed_lands l c.stand a n x c.next r.0 r.1)
  way c w _ _ _ _ (NewerWalk s os n rid q) (k, r) = (k, walks_know l q c.next s r)
  way c w _ _ _ _ (NewerAppend a y n rid q) (k, r) = (k, again_lands l q a c.next)
  way c w _ _ _ _ (SettlesCell bs t ls s) (k, r) = (more_known l c.cells s.0 s.1 k (r s.0 s.1 refl), tt)
  way c w _ _ _ _ (EndsAtOnce o os x e) (k, r) = (subst (WalkKnows l) e (begins_known c w o k), tt)
  way c w _ _ _ _ (WalkEnds o os x) (k, r) = (r, tt)
  way c w _ _ _ _ x (k, r) = (k, tt)

  walked_way : (c : Client m) (w : Work m) (d : Client m) (q : Place m) → AllWalked m c w d q → At c w (Walks []) → At d w q
  walked_way c w _ _ (HasPlayed of) (k, r) = (k, tt)
  walked_way c w _ _ x (k, r) = (k, tt)

  pruned_fine : (c : Client m) → AreKnown l c.cells → Knows (pruned m c)
  pruned_fine c k = record { cells = fewer_known l (keeps m c) c.cells k; work = tt }

  took_known : (c : Client m) (v : Option (View m)) → AreKnown l c.cells → AreKnown l (took_over m c v).cells
  took_known c None k = k
  took_known c (Some v) k = k

  refused_known : (c : Client m) (w : Work m) (p : Place m) (d : Client m) (n : ℕ) (why : Refusal) → IsRefused m c w p d n why → AreKnown l c.cells → AreKnown l d.cells
  refused_known c w _ _ _ _ (RecordFull y bs b of) k = k
  refused_known c w _ _ _ _ x k = k

  answered_known : (c : Client m) (w : Work m) (p : Place m) (d : Client m) (n : ℕ) (what : WhatOf m) → IsAnswered m c w p d n what → At c w p → AreKnown l d.cells
  answered_known c w _ _ _ _ (DecidedAt x bs p d other) (k, r) = more_known l c.cells p (Data d) k r
  answered_known c w _ _ _ _ (JudgedSo x bs p d of) (k, r) = more_known l c.cells p (Data d) k r
  answered_known c w _ _ _ _ (IsSaved o u bs p d) (k, r) = more_known l c.cells p (Data d) k r
  answered_known c w _ _ _ _ x (k, r) = k

  told_known : (c : Client m) (w : Work m) (p : Place m) (d : Client m) (ns : List (NoteOf m)) → IsTold m c w p d ns → At c w p → AreKnown l d.cells
  told_known c w _ _ _ (IsCommitted bs p d) (k, r) = more_known l c.cells p (Data d) k r
  told_known c w _ _ _ (IsRescued x bs p d) (k, r) = more_known l c.cells p (Data d) k r
  told_known c w _ _ _ (IsMarked n o j bs p d) (k, r) = took_known (owns m c p d) c.view (more_known l c.cells p (Data d) k r)
  told_known c w _ _ _ x (k, r) = k

  ends_fine : (c : Client m) (w : Work m) (p : Place m) (x : Moved m) → End m c w p x → At c w p → Fine x
  unfolding appends append_start syncs sync_start
  ends_fine c w _ _ (GoesOn _ _ _ (WalkGoes o os x)) (k, r) = record { cells = k; work = r }
  ends_fine c w _ _ (GoesOn _ _ _ (WalkBegins o os x e)) (k, r) = record { cells = λ y i. absurd (has_contained [] y i); work = subst (WalkKnows l) e (begins_known c w o k) }
  ends_fine c w _ _ (GoesOn _ _ _ (AppendGoes y bs a)) (k, r) = record { cells = k; work = r }
  ends_fine c w _ _ (GoesOn _ _ _ x) (k, r) = record { cells = k; work = tt }
  ends_fine c w _ _ (LearnsNewer _ (WalkLearns o os x)) (k, r) = record { cells = k; work = r }
  ends_fine c w _ _ (LearnsNewer _ (AppendLearns y bs a)) (k, r) = record { cells = k; work = r }
  ends_fine c w _ _ (LearnsNewer _ x) (k, r) = record { cells = k; work = tt }
  ends_fine c w _ _ (Syncs _ _ _ (JudgedAt bs p d)) (k, r) = record { cells = more_known l c.cells p (Data d) k r; work = tt }
  ends_fine c w _ _ (Syncs _ _ _ x) (k, r) = record { cells = k; work = tt }
  ends_fine c w _ _ (Appends _ _ _ _ (MarkBegins es p upto o n of came may)) (k, r) = record { cells = k; work = tt }
  ends_fine c w _ _ (Appends _ _ _ _ x) (k, r) = record { cells = k; work = tt }
  ends_fine c w p _ (Refuses d n why x) k = pruned_fine d (refused_known c w p d n why x k.0)
  ends_fine c w p _ (Answers d n what x) k = pruned_fine (took_over m d d.view) (took_known d d.view (answered_known c w p d n what x k))
  ends_fine c w p _ (Tells d ns x) k = pruned_fine d (told_known c w p d ns x k)

  takes_fine : (c : Client m) (x : CommandOf m) → Knows c → (y : Moved m) → Taken m c x y → Fine y
  unfolding appends append_start syncs sync_start
  takes_fine c _ k _ (SaidAtOnce _ _ _ Begins) = record { cells = k.cells; work = k.work }
  takes_fine c _ k _ (SaidAtOnce _ _ _ s) = record { cells = k.cells; work = k.work }
  takes_fine c _ k _ x = record { cells = k.cells; work = tt }

  -- Turns.

  called : (c : Client m) (n : ℕ) → Knows c → Knows (record c { calls = n })
  called c n k = record { cells = k.cells; work = k.work }

  pub command_fine : (c : Client m) (x : CommandOf m) → Knows c → Knows (client_command m c x).now
  unfolding client_command
  command_fine c x k = called (refused_or m c x (refusal m c x)).now _ (commanded m Fine c x (λ why e. k) (λ e. takes_fine c x k))

  pub tick_fine : (c : Client m) → Knows c → Knows (client_tick m c).now
  unfolding client_tick
  tick_fine c k = by c.work
    where
      by : (w : Option (Work m)) → Knows (tick_by m c w).now
      by None = record { cells = k.cells; work = k.work }
      by (Some w) = record { cells = k.cells; work = k.work }

  pub deliver_fine : (c : Client m) (from : NodeId) (rid : ℕ) (y : Msg) → Knows c → ((w : Work m) (t : Task m) → c.work ≡ Some w → w.hand ≡ Doing t → awaits (task_awaited m c.stand t) from rid ≡ true → TaskHeard c t from.num (reply y))
      → Knows (client_deliver m c from rid y).now
  unfolding client_deliver
  deliver_fine c from rid y k g = called (feed m c c.work from rid (reply y)).now _ (delivered m At Fine ends_fine way (over_walks m At Fine ends_fine walked_way) c from rid (reply y) k
      (λ w t has doing a other. (k.cells, (subst (λ (d : Hand m). TaskKnows (task_in m d)) doing (subst WorkKnows has k.work), g w t has doing a))) (λ w q has is a. (k.cells, subst WorkKnows has k.work)))
