-- A client's turns as a whole: what its walks have settled, and what its kept view rests on, is kept by each command, answer and tick.
use Rattle.std.proofs.Common.{◌≡◌, ℕ, ◌<◌, ◌≤◌, List, [], ◌∷◌, true, false, refl, sym, ◌∙◌, ap, subst, inl, inr, Option, Some, None}
use Rattle.std.specs.Prelude.{Contains}
use Rattle.tg_base.specs.Layouts.{Layout}
use Rattle.tg_base.specs.declared.cell.Cell.{Cell}
use Rattle.tg_base.specs.declared.ids.NodeId.{NodeId}
use Rattle.tg_base.specs.declared.ids.Oid.{Oid}
use Rattle.tg_base.specs.declared.marks.StreamLink.{StreamLink}
use Rattle.tg_base.specs.declared.msg.Msg.{Msg}
use Rattle.tg_kind.specs.Meaning.{Meaning}
use Rattle.tg_base.specs.Orders.{with_oid}
use Rattle.tg_model.specs.Kinds.{CommandOf, WhatOf, NoteOf}
use Rattle.tg_model.specs.declared.refusal.Refusal.{Refusal}
use Rattle.tg_protocol.specs.Words.{cell_at, with_cell}
use Rattle.tg_protocol.specs.Requests.{awaits, Next, Goes, Learns, Ends}
use Rattle.tg_protocol.specs.Replies.{Reply, reply}
use Rattle.tg_protocol.specs.Appending.{append_start}
use Rattle.tg_protocol.specs.Syncing.{Sync, Confirmed, sync_start, sync_feed}
use Rattle.tg_protocol.specs.Walking.{Walk, Members, walk_feed, walk_again}
use Rattle.tg_protocol.specs.Views.{Entries, View}
use Rattle.tg_protocol.specs.Logs.{Log}
use Rattle.tg_protocol.specs.Clients.{Task, Syncing, Walking, Appending, Trimming, Copying', Reconfiguring, Hand, Doing, Learning, Work, Client, refusal}
use Rattle.tg_protocol.specs.Answers.{Moved, took_over, appends, syncs}
use Rattle.tg_protocol.specs.ClientSteps.{after_turn, met, owns, task_in, task_awaited, refused_or, client_command, client_deliver, client_tick, feed, tick_by, start_walk, lasts_of, plays_kept}
use Rattle.tg_protocol.specs.Worlds.{World}
use Rattle.tg_law_layouts.proofs.Moves.Turns.{not_busy}
use Rattle.tg_law_replies.specs.Replies.Steps.{EachDelivery}
use Rattle.tg_law_walks.specs.Walks.Streams.{AreKnown}
use Rattle.tg_law_walks.specs.Walks.Walks.{JobEndsAs}
use Rattle.tg_law_walks.specs.Walks.Lists.{backs}
use Rattle.tg_law_walks.specs.Walks.Laws.{KeepsStreams}
use Rattle.tg_law_walks.proofs.Walks.Cells.{more_known}
use Rattle.tg_law_walks.proofs.Walks.Syncs.{syncs_keep_streams}
use Rattle.tg_law_syncs.specs.Settling.Visits.{IsFull, AreFull, Visits, IsIssuedTo}
use Rattle.tg_law_syncs.proofs.Settling.Visiting.{walks_visit_on, walks_visit_again}
use Rattle.tg_law_syncs.proofs.Known.Knowing.{Knows, WorkKnows, TaskKnows, Settles}
use Rattle.tg_law_headline.proofs.Settled.Rounds.{course, SavedTo, IsKept, IsRounded, IsAtWalk, next_round, starts_anew, visiting, saved_up, walk_up}
use Rattle.tg_law_headline.proofs.Settled.Checks.{SyncBy, SyncNext, SyncHears, sync_by}
use Rattle.tg_law_headline.proofs.Settled.Meets.{MeetsNone, start_none, from_none, none_no}
use Rattle.tg_law_replies.proofs.Replies.Ways.{EachAt, each_way, each_fed, each_newer}
use Rattle.tg_law_headline.proofs.Settled.Turns.{IsOwn, LearnOk, TaskOk, HandOk, WorkOk, IsSettling, IsAtEnd, MeetsBy, no_view, played_kept, begins_as, on_walk_ok, meets_none, confirmed_work, confirmed_round}
use Rattle.tg_law_steps.proofs.Places.{Place, Feeds, Newer, OnSync, OnWalk, Over, Walks, Rescues as RescuesAt}
use Rattle.tg_law_steps.proofs.Ways.{Way, sync_fed, FeedsSync, FeedsWalk, NewerSync, NewerWalk, Confirms, Settles as SettlesCell, EndsAtOnce, WalkEnds, MetNone, MetLow, MetHigh, StartsOver, AllWalked, HasPlayed, LooksBack, IsRescue}
use Rattle.tg_law_steps.proofs.Ends.{SyncGoes, WalkGoes, WalkBegins, SyncLearns, WalkLearns, JudgedAt, StaleLow, StaleHigh, Widens, MarkBegins, IsRefused, RecordFull, IsAnswered, DecidedAt, IsTold, IsMarked, End, GoesOn, LearnsNewer, Syncs, Appends, Refuses, Answers, Tells}
use Rattle.tg_law_steps.proofs.Takes.{Hosts, Taken, SaidAtOnce, SyncsFirst, said_work}
use Rattle.tg_law_steps.proofs.Along.{delivered, commanded, over_walks}

module _ (m : Meaning) (v : World m) (S : ℕ → ℕ → Type 0) (Tl : ℕ → ℕ → Type 0) (Told : Layout → List Oid → ℕ → List StreamLink → Type 0) (Sure : Layout → ℕ → Type 0) where
  -- what an awaited answer has to tell, of a log that the client has read
  abbrev pub TaskHears : Log → ℕ → Client m → Task m → ℕ → Reply → Type 0
  TaskHears l n c (Syncing s) i x = SyncHears (Told c.stand s.oids) (Sure c.stand) s i x c.next × Settles m l (sync_feed c.stand s s.work i x c.next).to
  TaskHears l n c (Walking k os) i x = JobEndsAs l k.job i x c.next × MeetsBy m v S Tl Told Sure n (walk_feed c.stand k k.job i x c.next).to
  TaskHears l n c t i x = Unit {0}

  abbrev pub Hears : Log → ℕ → Client m → NodeId → ℕ → Reply → Type 0
  Hears l n c from rid x = (w : Work m) (t : Task m) → c.work ≡ Some w → w.hand ≡ Doing t → awaits (task_awaited m c.stand t) from rid ≡ true → TaskHears l n c t from.num x

  -- while it learns a newer layout
  pub learn_of : (n : ℕ) (p : Layout) (hosted : List Oid) (w : Work m) (h : Hand m) → HandOk m v S Tl Told Sure n p hosted w h → LearnOk m v S Tl Told Sure n hosted w (task_in m h)
  learn_of n p hosted w (Doing (Syncing s)) i = (i.0, i.1)
  learn_of n p hosted w (Doing (Walking k os)) i = i
  learn_of n p hosted w (Doing (Appending a y)) i = tt
  learn_of n p hosted w (Doing (Trimming t)) i = tt
  learn_of n p hosted w (Doing (Copying' c)) i = tt
  learn_of n p hosted w (Doing (Reconfiguring q)) i = tt
  learn_of n p hosted w (Learning ws t) i = i

  pub none_meets : (n : ℕ) (to : Next Walk Members) → MeetsNone to → MeetsBy m v S Tl Told Sure n to
  none_meets n (Goes k) h = tt
  none_meets n (Learns k) h = tt
  none_meets n (Ends x) h = λ b q is less. none_no b (sym h ∙ is)

  -- In a later epoch.
  module _ (up : (a b q : ℕ) → a ≤ b → S a q → S b q) (n n' : ℕ) (le : n ≤ n') where
    learn_up : (hosted : List Oid) (w : Work m) (t : Task m) → LearnOk m v S Tl Told Sure n hosted w t → LearnOk m v S Tl Told Sure n' hosted w t
    learn_up hosted w (Syncing s) i = i
    learn_up hosted w (Walking k os) i = (i.0, walk_up m v S Tl up n n' le (course m w) k os i.1)
    learn_up hosted w (Appending a y) i = tt
    learn_up hosted w (Trimming t) i = tt
    learn_up hosted w (Copying' c) i = tt
    learn_up hosted w (Reconfiguring q) i = tt

    task_up : (p : Layout) (hosted : List Oid) (w : Work m) (t : Task m) → TaskOk m v S Tl Told Sure n p hosted w t → TaskOk m v S Tl Told Sure n' p hosted w t
    task_up p hosted w (Syncing s) i = i
    task_up p hosted w (Walking k os) i = (i.0, walk_up m v S Tl up n n' le (course m w) k os i.1)
    task_up p hosted w (Appending a y) i = tt
    task_up p hosted w (Trimming t) i = tt
    task_up p hosted w (Copying' c) i = tt
    task_up p hosted w (Reconfiguring q) i = tt

    hand_up : (p : Layout) (hosted : List Oid) (w : Work m) (h : Hand m) → HandOk m v S Tl Told Sure n p hosted w h → HandOk m v S Tl Told Sure n' p hosted w h
    hand_up p hosted w (Doing t) i = task_up p hosted w t i
    hand_up p hosted w (Learning ws t) i = learn_up hosted w t i

    work_up : (p : Layout) (hosted : List Oid) (o : Option (Work m)) → WorkOk m v S Tl Told Sure n p hosted o → WorkOk m v S Tl Told Sure n' p hosted o
    work_up p hosted None i = tt
    work_up p hosted (Some w) i = hand_up p hosted w w.hand i

    pub settling_up : (c : Client m) → IsSettling m v S Tl Told Sure n c → IsSettling m v S Tl Told Sure n' c
    settling_up c i = record { kept = λ x o is j. saved_up m v S Tl up n n' le o x.upto (i.kept x o is j); work = work_up c.stand c.hosted c.work i.work }

module _ (m : Meaning) (v : World m) (S : ℕ → ℕ → Type 0) (Tl : ℕ → ℕ → Type 0) (Told : Layout → List Oid → ℕ → List StreamLink → Type 0) (Sure : Layout → ℕ → Type 0)
    (l : Log) (n : ℕ) (settles : (q : ℕ) (c : Cell) → cell_at l q ≡ Some c → S n q) (full : (e t : ℕ) → Tl e t → AreFull l (IsIssuedTo m v e) t)
    (ends : (p : Layout) (os : List Oid) (t : ℕ) (ls : List StreamLink) → Told p os t ls → Sure p t → Tl p.epoch t × ((o : Oid) → Contains os o → IsFull (IsIssuedTo m v p.epoch o) t (backs o ls)))
    (joins : (o : Oid) (u : ℕ) → SavedTo m v S Tl n o u → (e t q : ℕ) → Tl e t → IsIssuedTo m v e o q → q < t → q < u → S n q)
    (low : (p : Layout) (t : ℕ) → t ≤ p.start → Sure p t) (objects : List Oid) (es : Entries) where
  abbrev Fine : Moved m → Type 0
  Fine x = IsSettling m v S Tl Told Sure n x.now

  abbrev Kept : Client m → Type 0
  Kept c = IsKept m v S Tl n c

  abbrev Own : List Oid → Work m → Type 0
  Own hosted w = IsOwn m v S Tl Told Sure hosted w

  abbrev Round : ℕ → Work m → List (ℕ × Cell) → List Oid → Type 0
  Round e w cells os = IsRounded m v S Tl n e (course m w) cells os

  abbrev Found : Client m → Work m → Type 0
  Found c w = IsAtEnd m v S Tl Told Sure c w

  -- Walks.

  visits_low : (w : Work m) (k : Walk) (os : List Oid) (to : Next Walk Members) (i : IsAtWalk m v S Tl n (course m w) k os) → Visits l (IsIssuedTo m v i.epoch) k.oid k.lo w.tail k.cells to → Visits l (IsIssuedTo m v i.epoch) k.oid w.lo w.tail k.cells to
  visits_low w k os to i b = subst (λ (y : ℕ). Visits l (IsIssuedTo m v i.epoch) k.oid y w.tail k.cells to) i.low b

  pub fed_visits : (c : Client m) (w : Work m) (k : Walk) (os : List Oid) (j : ℕ) (x : Reply) → AreKnown l k.cells → (i : IsAtWalk m v S Tl n (course m w) k os) → JobEndsAs l k.job j x c.next
      → Visits l (IsIssuedTo m v i.epoch) k.oid w.lo w.tail k.cells (walk_feed c.stand k k.job j x c.next).to
  fed_visits c w k os j x known i e = visits_low w k os (walk_feed c.stand k k.job j x c.next).to i
      (walks_visit_on m v i.epoch l c.stand k j x c.next w.tail (full i.epoch w.tail i.round.heading.confirmed) (visiting m v S Tl l i.epoch w.tail k known i.visit) e)

  pub again_visits : (p : Layout) (next : ℕ) (w : Work m) (k : Walk) (os : List Oid) → AreKnown l k.cells → (i : IsAtWalk m v S Tl n (course m w) k os)
      → Visits l (IsIssuedTo m v i.epoch) k.oid w.lo w.tail k.cells (walk_again p k next).to
  again_visits p next w k os known i = visits_low w k os (walk_again p k next).to i
      (walks_visit_again m v i.epoch l p k next w.tail (full i.epoch w.tail i.round.heading.confirmed) (visiting m v S Tl l i.epoch w.tail k known i.visit))

  -- Syncs.

  abbrev SyncAt : Client m → Work m → Next Sync Confirmed → Type 0
  SyncAt c w (Goes s) = (s.oids ≡ w.oids) × Own c.hosted w × SyncBy (Told c.stand s.oids) (Sure c.stand) s.work
  SyncAt c w (Learns s) = (s.oids ≡ w.oids) × Own c.hosted w
  SyncAt c w (Ends x) = AreKnown l c.cells × Own c.hosted w × ((cells : List (ℕ × Cell)) → Round c.stand.epoch (confirmed_work m v S Tl Told Sure l n settles full ends joins c w x) cells w.oids) × Settles m l (Ends x)

  sync_at : (s : Sync) (c : Client m) (w : Work m) (to : Next Sync Confirmed) → c.stand.epoch ≤ n → s.oids ≡ w.oids → Own c.hosted w → Kept c → AreKnown l c.cells → KeepsStreams s to → SyncNext (Told c.stand s.oids) (Sure c.stand) to → Settles m l to → SyncAt c w to
  sync_at s c w (Goes t) le same own k known keep g f = (keep ∙ same, own, subst (λ (os : List Oid). SyncBy (Told c.stand os) (Sure c.stand) t.work) (sym keep) g)
  sync_at s c w (Learns t) le same own k known keep g f = (keep ∙ same, own)
  sync_at s c w (Ends x) le same own k known keep g f = (known, own, λ cells. confirmed_round m v S Tl Told Sure l n settles full ends joins c w s.oids x cells le same own k g.0 g.1, f)

  -- Along a turn.

  abbrev Rest : Client m → Work m → Place m → Type 0
  Rest c w (Feeds t j rid x) = (c.stand.epoch ≤ n) × AreKnown l c.cells × TaskKnows m l t × TaskOk m v S Tl Told Sure n c.stand c.hosted w t × TaskHears m v S Tl Told Sure l n c t j x
  Rest c w (Newer t j rid q) = TaskKnows m l t × LearnOk m v S Tl Told Sure n c.hosted w t
  Rest c w (OnSync bs to) = SyncAt c w to
  Rest c w (OnWalk o os to) = (e : ℕ) × (cells : List (ℕ × Cell)) × Own c.hosted w × Round e w cells (o ∷ os) × Visits l (IsIssuedTo m v e) o w.lo w.tail cells to × MeetsBy m v S Tl Told Sure n to
  Rest c w (Over o os x g) = (e : ℕ) × AreKnown l c.cells × Own c.hosted w × Round e w c.cells os
  Rest c w (Walks os) = (e : ℕ) × AreKnown l c.cells × Own c.hosted w × Round e w c.cells os
  Rest c w (RescuesAt at) = plays_kept m w.command ≡ false
  Rest c w p = Unit {0}

  abbrev pub At' : Client m → Work m → Place m → Type 0
  At' c w p = Kept c × Rest c w p

  begins_visits : (c : Client m) (w : Work m) (e : ℕ) (o : Oid) (os : List Oid) (to : Next Walk Members) → (start_walk m c w o).to ≡ to → AreKnown l c.cells → Round e w c.cells (o ∷ os) → Visits l (IsIssuedTo m v e) o w.lo w.tail c.cells to
  begins_visits c w e o os to is known h = subst (Visits l (IsIssuedTo m v e) o w.lo w.tail c.cells) is (begins_as m v S Tl Told Sure l n settles full ends joins c w e o os known h)

  pub way : (c : Client m) (w : Work m) (p : Place m) (d : Client m) (u : Work m) (q : Place m) → Way m c w p d u q → At' c w p → At' d u q
  unfolding sync_start
  way c w _ _ _ _ (FeedsSync s j rid x) (k, (le, cells, known, i, h)) = (
    k,
    sync_at s (after_turn m c (sync_fed m c s j x)) (met m w (sync_fed m c s j x)) (sync_fed m c s j x).to le i.0 i.1 k cells (syncs_keep_streams c.stand s j x c.next)
        (sync_by (Told c.stand s.oids) (Sure c.stand) c.stand (low c.stand) s j x c.next h.0 i.2) h.1,
  )
  way c w _ _ _ _ (FeedsWalk y os j rid x) (k, (le, cells, known, i, h)) = (k, (i.1.epoch, y.cells, i.0, i.1.round, fed_visits c w y os j x known i.1 h.0, h.1))
  way c w _ _ _ _ (NewerSync s j rid q) (k, (known, i)) = (k, (i.0, i.1, tt))
  way c w _ _ _ _ (NewerWalk y os j rid q) (k, (known, i)) = (k, (i.1.epoch, y.cells, i.0, i.1.round, again_visits q c.next w y os known i.1, none_meets m v S Tl Told Sure n (walk_again q y c.next).to (from_none q c.next y)))
  way c w _ _ _ _ (Confirms bs t ls) (k, r) = (k, (c.stand.epoch, r.0, r.1, r.2 c.cells))
  way c w _ _ _ _ (SettlesCell bs t ls s) (k, r) = (k, (c.stand.epoch, more_known l c.cells s.0 s.1 r.0 (r.3 s.0 s.1 refl), r.1, r.2 (with_cell c.cells s.0 s.1)))
  way c w _ _ _ _ (EndsAtOnce o os x is) (k, (e, known, own, h)) =
      let t = begins_visits c w e o os (Ends x) is known h in
      let none = subst MeetsNone is (start_none c.stand o (lasts_of m w o) w.lo c.cells c.next) in
      (k, (e, t.1, own, next_round m v S Tl n e (course m w) c.cells o os x h t.0 t.2 (meets_none m v S Tl Told Sure l n settles full ends joins x none)))
  way c w _ _ _ _ (WalkEnds o os x) (k, (e, cells, own, h, t, g)) = (k, (e, t.1, own, next_round m v S Tl n e (course m w) cells o os x h t.0 t.2 g))
  way c w _ _ _ _ (MetNone o os x) k = k
  way c w _ _ _ _ (MetLow o os x b i j) k = k
  way c w _ _ _ _ (MetHigh o os x b i j z) (k, r) = (no_view m v S Tl Told Sure l n settles full ends joins c, r)
  way c w _ _ _ _ (StartsOver o os x b i j z) (k, (e, known, own, h)) = (no_view m v S Tl Told Sure l n settles full ends joins c, (e, known, own, starts_anew m v S Tl n e (course m w) c.cells os h))
  way c w _ _ _ _ x (k, r) = (k, tt)

  -- with what holds where all streams are walked
  abbrev There : Client m → Work m → Place m → Type 0
  There c w p = At' c w p × EachAt m objects es Found c w p

  way_there : (c : Client m) (w : Work m) (p : Place m) (d : Client m) (u : Work m) (q : Place m) → Way m c w p d u q → There c w p → There d u q
  way_there c w p d u q x k = (way c w p d u q x k.0, each_way m objects es Found c w p d u q x k.1)

  walked_way : (c : Client m) (w : Work m) (d : Client m) (q : Place m) → AllWalked m c w d q → There c w (Walks []) → There d w q
  walked_way c w _ _ (HasPlayed of) ((k, (e, known, own, h)), at) = ((played_kept m v S Tl Told Sure l n settles full ends joins c w e known h at, tt), tt)
  walked_way c w _ _ (LooksBack at o q of) ((k, r), f) = ((k, tt), tt)
  walked_way c w _ _ (IsRescue at of) ((k, r), f) = ((k, ap (λ (x : CommandOf m). plays_kept m x) of), tt)

  -- What a turn comes to.

  took_kept : (c : Client m) (y : Option (View m)) → Kept c → Kept (took_over m c y)
  took_kept c None k = k
  took_kept c (Some y) k = k

  refused_kept : (c : Client m) (w : Work m) (p : Place m) (d : Client m) (i : ℕ) (why : Refusal) → IsRefused m c w p d i why → Kept c → Kept d
  refused_kept c w _ _ _ _ (RecordFull y bs b of) k = k
  refused_kept c w _ _ _ _ x k = k

  answered_kept : (c : Client m) (w : Work m) (p : Place m) (d : Client m) (i : ℕ) (what : WhatOf m) → IsAnswered m c w p d i what → Kept c → Kept d
  answered_kept c w _ _ _ _ (DecidedAt x bs p d e) k = k
  answered_kept c w _ _ _ _ x k = k

  told_kept : (c : Client m) (w : Work m) (p : Place m) (d : Client m) (ns : List (NoteOf m)) → IsTold m c w p d ns → Kept c → Kept d
  told_kept c w _ _ _ (IsMarked i o j bs p d) k = took_kept (owns m c p d) c.view k
  told_kept c w _ _ _ x k = k

  ends_fine : (c : Client m) (w : Work m) (p : Place m) (x : Moved m) → End m c w p x → There c w p → Fine x
  unfolding appends append_start syncs sync_start
  ends_fine c w _ _ (GoesOn _ _ _ (SyncGoes bs s)) ((k, r), f) = record { kept = k; work = r }
  ends_fine c w _ _ (GoesOn _ _ _ (WalkGoes o os x)) ((k, (e, cells, own, h, t, g)), f) = record { kept = k; work = (own, on_walk_ok m v S Tl Told Sure l n settles full ends joins (course m w) e cells o os x h t) }
  ends_fine c w _ _ (GoesOn _ _ _ (WalkBegins o os x is)) ((k, (e, known, own, h)), f) = record { kept = k; work = (own, on_walk_ok m v S Tl Told Sure l n settles full ends joins (course m w) e c.cells o os x h (begins_visits c w e o os (Goes x) is known h)) }
  ends_fine c w _ _ (GoesOn _ _ _ x) ((k, r), f) = record { kept = k; work = tt }
  ends_fine c w _ _ (LearnsNewer _ (SyncLearns bs s)) ((k, r), f) = record { kept = k; work = r }
  ends_fine c w _ _ (LearnsNewer _ (WalkLearns o os x)) ((k, (e, cells, own, h, t, g)), f) = record { kept = k; work = (own, on_walk_ok m v S Tl Told Sure l n settles full ends joins (course m w) e cells o os x h t) }
  ends_fine c w _ _ (LearnsNewer _ x) ((k, r), f) = record { kept = k; work = tt }
  ends_fine c w _ _ (Syncs _ _ _ (JudgedAt bs p d)) ((k, r), f) = record { kept = k; work = (refl, inr (λ o i. i), tt) }
  ends_fine c w _ _ (Syncs _ _ _ (StaleLow o os x b i j)) ((k, (e, known, own, h)), f) = record { kept = k; work = (refl, own, tt) }
  ends_fine c w _ _ (Syncs _ _ _ (StaleHigh o os x b i j)) ((k, (e, known, own, h)), f) = record { kept = no_view m v S Tl Told Sure l n settles full ends joins c; work = (refl, own, tt) }
  ends_fine c w _ _ (Syncs _ _ _ (Widens at o e)) ((k, r), f) = record { kept = k; work = (refl, inl r, tt) }
  ends_fine c w _ _ (Appends _ _ _ _ (MarkBegins es p upto o i of came may)) ((k, r), f) = record { kept = k; work = tt }
  ends_fine c w _ _ (Appends _ _ _ _ x) ((k, r), f) = record { kept = k; work = tt }
  ends_fine c w p _ (Refuses d i why x) k = record { kept = refused_kept c w p d i why x k.0.0; work = tt }
  ends_fine c w p _ (Answers d i what x) k = record { kept = took_kept d d.view (answered_kept c w p d i what x k.0.0); work = tt }
  ends_fine c w p _ (Tells d ns x) k = record { kept = told_kept c w p d ns x k.0.0; work = tt }

  -- Commands, of which none is taken while one is in hand.

  takes_fine : (c : Client m) (x : CommandOf m) → c.work ≡ None → Kept c → (y : Moved m) → Taken m c x y → Fine y
  unfolding appends append_start syncs sync_start
  takes_fine c _ free k _ (SaidAtOnce _ _ _ (Hosts o is)) = record { kept = no_view m v S Tl Told Sure l n settles full ends joins (record c { hosted = with_oid o c.hosted }); work = subst (WorkOk m v S Tl Told Sure n c.stand (with_oid o c.hosted)) (sym free) tt }
  takes_fine c _ free k _ (SaidAtOnce x d ns s) = record { kept = k; work = subst (WorkOk m v S Tl Told Sure n d.stand d.hosted) (sym (said_work m c x d ns s ∙ free)) tt }
  takes_fine c _ free k _ (SyncsFirst x i) = record { kept = k; work = (refl, inr (λ o j. j), tt) }
  takes_fine c _ free k _ x = record { kept = k; work = tt }

  -- Turns.

  -- only counters have changed
  called : (c : Client m) (a b : ℕ) → IsSettling m v S Tl Told Sure n c → IsSettling m v S Tl Told Sure n (record c { calls = a; next = b })
  called c a b i = record { kept = i.kept; work = i.work }

  pub command_fine : (c : Client m) (x : CommandOf m) → IsSettling m v S Tl Told Sure n c → IsSettling m v S Tl Told Sure n (client_command m c x).now
  unfolding client_command
  command_fine c x i = called (refused_or m c x (refusal m c x)).now _ _ (commanded m Fine c x (λ why e. i) (λ e. takes_fine c x (not_busy m c x e) i.kept))

  pub tick_fine : (c : Client m) → IsSettling m v S Tl Told Sure n c → IsSettling m v S Tl Told Sure n (client_tick m c).now
  unfolding client_tick
  tick_fine c i = by c.work
    where
      by : (w : Option (Work m)) → IsSettling m v S Tl Told Sure n (tick_by m c w).now
      by None = called c _ _ i
      by (Some w) = called c _ _ i

  module _ (c : Client m) (le : c.stand.epoch ≤ n) (from : NodeId) (rid : ℕ) (knows : Knows m l c) (so : IsSettling m v S Tl Told Sure n c) where
    abbrev Tells' : Reply → Type 0
    Tells' x = Hears m v S Tl Told Sure l n c from rid x

    pub feeds_at : (x : Reply) → Tells' x → (w : Work m) (t : Task m) → c.work ≡ Some w → w.hand ≡ Doing t → awaits (task_awaited m c.stand t) from rid ≡ true → At' c w (Feeds t from.num rid x)
    feeds_at x g w t has doing a = (
      so.kept,
      (
        le,
        knows.cells,
        subst (λ (d : Hand m). TaskKnows m l (task_in m d)) doing (subst (WorkKnows m l) has knows.work),
        subst (HandOk m v S Tl Told Sure n c.stand c.hosted w) doing (subst (WorkOk m v S Tl Told Sure n c.stand c.hosted) has so.work),
        g w t has doing a,
      ),
    )

    pub newer_at : (w : Work m) (q : Layout) → c.work ≡ Some w → At' c w (Newer (task_in m w.hand) from.num rid q)
    newer_at w q has = (so.kept, (subst (WorkKnows m l) has knows.work, learn_of m v S Tl Told Sure n c.stand c.hosted w w.hand (subst (WorkOk m v S Tl Told Sure n c.stand c.hosted) has so.work)))

    pub deliver_fine : (y : Msg) → Tells' (reply y) → EachDelivery m objects es Found c c.work from rid (reply y) → IsSettling m v S Tl Told Sure n (client_deliver m c from rid y).now
    unfolding client_deliver
    deliver_fine y g f = called (feed m c c.work from rid (reply y)).now _ _ (delivered m There Fine ends_fine way_there (over_walks m There Fine ends_fine walked_way) c from rid (reply y) so
        (λ w t has doing a other. (feeds_at (reply y) g w t has doing a, each_fed m objects es Found c from rid (reply y) f w t has doing a other)) (λ w q has is a. (newer_at w q has, each_newer m objects es Found c from rid (reply y) f w q has is a)))
