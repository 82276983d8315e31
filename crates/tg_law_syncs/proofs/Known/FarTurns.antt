-- What lies below the tails of a client's later syncs, through each of its turns: how far its view has played, the record
-- that it has appended, and what a trim that it met has left of each stream.
use Rattle.std.proofs.Common.{◌≡◌, ◌⊎◌, ℕ, ◌<◌, ◌≤◌, List, [], true, refl, sym, ◌∙◌, subst, inl, inr, arith, Option, Some, None}
use Rattle.std.specs.Prelude.{max, nat_lt, ◌&&◌}
use Rattle.tg_base.specs.Changes.{Changed}
use Rattle.tg_base.specs.Layouts.{Layout}
use Rattle.tg_base.specs.declared.change.Join.{Join}
use Rattle.tg_base.specs.declared.ids.NodeId.{NodeId}
use Rattle.tg_base.specs.declared.ids.Oid.{Oid}
use Rattle.tg_base.specs.declared.msg.Msg.{Msg}
use Rattle.tg_base.specs.declared.packet.Out.{Out}
use Rattle.tg_entry.specs.declared.entry.Entry.{Entry}
use Rattle.tg_kind.specs.Meaning.{Meaning}
use Rattle.tg_model.specs.declared.command.Command.TheVariants as cmd
use Rattle.tg_model.specs.Kinds.{CommandOf, WhatOf, NoteOf}
use Rattle.tg_model.specs.declared.refusal.Refusal.{Refusal}
use Rattle.tg_base.specs.Orders.{node_eq}
use Rattle.tg_protocol.specs.Words.{layout_id}
use Rattle.tg_protocol.specs.Requests.{awaits, Next, Goes, Learns, Ends, Turn}
use Rattle.tg_protocol.specs.Replies.{Reply, reply, IsLatest}
use Rattle.tg_protocol.specs.Appending.{append_start, append_feed, append_again}
use Rattle.tg_protocol.specs.Syncing.{SyncWork, Sync, sync_start, sync_feed}
use Rattle.tg_protocol.specs.Walking.{walk_feed, walk_again}
use Rattle.tg_protocol.specs.Reconfiguring.{Reconf, ReconfEnd, SealingSpare, first_step, reconf_feed, reconf_latest, reconf_start}
use Rattle.tg_protocol.specs.Views.{View}
use Rattle.tg_protocol.specs.Logs.{Log}
use Rattle.tg_protocol.specs.Clients.{Purpose, Task, Syncing, Walking, Appending, Trimming, Copying', Reconfiguring, Hand, Doing, Learning, Work, Client, refusal, upto_in, upto}
use Rattle.tg_protocol.specs.Answers.{Moved, took_over, appends, syncs, play_target}
use Rattle.tg_protocol.specs.ClientSteps.{goes_on, owns, task_in, task_awaited, reconf_to, on_reconf, refused_or, new_work, client_command, client_deliver, client_tick, tick_by, feed, learns_for}
use Rattle.tg_law_layouts.proofs.Layouts.Phases.{end_stand}
use Rattle.tg_law_layouts.proofs.Moves.Turns.{not_busy}
use Rattle.tg_law_walks.specs.Walks.Streams.{stands_in}
use Rattle.tg_law_walks.specs.Walks.Laws.{KeepsStreams}
use Rattle.tg_law_walks.specs.Walks.Rounds.{IsSavedBelow, IsBehind}
use Rattle.tg_law_walks.proofs.Walks.Syncs.{syncs_keep_streams}
use Rattle.tg_law_syncs.proofs.Known.Far as far
use Rattle.tg_law_syncs.proofs.Known.Far.{SyncFar, TokenFar, AppendFar, SyncHeard, AppendHeard, sync_far, append_far, again_far}
use Rattle.tg_law_syncs.proofs.Known.Ways.{played_view}
use Rattle.tg_law_syncs.proofs.Known.Views.{played_low}
use Rattle.tg_law_steps.proofs.Places.{Place, Feeds, Newer, OnSync, OnAppend, OnTrims, OnCopy, OnReconf, Walks, Plays, Looks, Rescues as RescuesAt}
use Rattle.tg_law_steps.proofs.Ways.{Way, sync_fed, walk_fed, append_fed, FeedsSync, FeedsWalk, FeedsAppend, FeedsTrims, FeedsCopy, FeedsReconf, NewerSync, NewerWalk, NewerAppend, NewerTrims, NewerCopy, NewerReconf, Confirms, Settles, MetHigh, StartsOver, AllWalked, HasPlayed, LooksBack, IsRescue}
use Rattle.tg_law_steps.proofs.Ends.{IsGoing, SyncGoes, WalkGoes, WalkBegins, AppendGoes, ReconfGoes, IsLearning, SyncLearns, WalkLearns, AppendLearns, IsSynced, JudgedAt, StaleLow, StaleHigh, Widens, RescueDecides, IsRefused, ReconfOvertaken, ReconfNotWhole, CopyFault, IsAnswered, DecidedAt, IsTold, IsMarked, IsInstalled, End, GoesOn, LearnsNewer, Syncs, Appends, Refuses, Answers, Tells}
use Rattle.tg_law_steps.proofs.Takes.{Hosts, IsWalked, WalksAsk, Taken, SaidAtOnce, SyncsFirst, AppendsRecord, ReconfBegins, CopyBegins}
use Rattle.tg_law_steps.proofs.Along.{delivered, commanded, over_walks}

module _ (m : Meaning) (l : Log) where
  -- what a tail is to have
  pub record IsPast (view : Option (View m)) (at before t : ℕ) : Type 0 where
    pub upto : upto_in m view ≤ t
    pub own : at ≤ t
    pub behind : IsBehind m l t before

module _ (m : Meaning) (l : Log) (reached past : Layout → ℕ → Type 0) (told : Layout → ℕ → (ℕ → Type 0) → Type 0) where
  -- a later layout
  abbrev pub Onto : Layout → Layout → Type 0
  Onto p q = (t : ℕ) → past p t → past q t

  -- a stream that stands below a trim is saved past it, below what is past
  pub record IsSavedPast (p : Layout) (o : Oid) (g : ℕ) : Type 0 where
    pub top : ℕ
    pub saved : IsSavedBelow m l o g top
    pub is_past : past p top

  abbrev pub GoneOk : Layout → ℕ → Type 0
  GoneOk p g = (o : Oid) (q : ℕ) → q < g → stands_in l o q ≡ true → IsSavedPast p o g

  abbrev pub SyncPast : Layout → Option (View m) → ℕ → ℕ → SyncWork → Type 0
  SyncPast p view at before w = SyncFar p (reached p) (past p) (told p) (IsPast m l view at before) w

  -- Of a client and its work.

  pub record Common (p : Layout) (c : Client m) (w : Work m) : Type 0 where
    pub at : past p w.at
    pub gone : GoneOk p w.gone

  abbrev pub EndBelow : Client m → Work m → Type 0
  EndBelow c w = w.command ≡ cmd.End → upto m c ≤ w.at

  abbrev pub TaskKept : Client m → Work m → Task m → Type 0
  TaskKept c w (Syncing s) = Common c.stand c w × EndBelow c w × (s.oids ≡ w.oids)
  TaskKept c w (Walking k os) = Common c.stand c w × EndBelow c w × past c.stand w.tail
  TaskKept c w (Appending a y) = Common c.stand c w × TokenFar c.stand (reached c.stand) (past c.stand) (told c.stand) (upto m c) a.token
  TaskKept c w t = Unit {0}

  abbrev pub TaskFar : Client m → Work m → Task m → Type 0
  TaskFar c w (Syncing s) = SyncPast c.stand c.view w.at w.gone_before s.work × GoneOk c.stand w.gone_before
  TaskFar c w (Appending a y) = AppendFar c.stand (reached c.stand) (past c.stand) (told c.stand) (upto m c) a.token a.work
  TaskFar c w t = Unit {0}

  abbrev pub HandFar : Client m → Work m → Hand m → Type 0
  HandFar c w (Doing t) = TaskKept c w t × TaskFar c w t
  HandFar c w (Learning ws t) = TaskKept c w t

  abbrev pub WorkFar : Client m → Option (Work m) → Type 0
  WorkFar c None = Unit {0}
  WorkFar c (Some w) = HandFar c w w.hand

  pub record Far (c : Client m) : Type 0 where
    pub view : past c.stand (upto m c)
    pub work : WorkFar c c.work

  -- a reconfiguration goes on in this layout or in a later one
  abbrev pub NextOnto : Layout → Next Reconf ReconfEnd → Type 0
  NextOnto p (Goes r) = Onto p r.stand
  NextOnto p (Learns r) = Unit {0}
  NextOnto p (Ends e) = Onto p (end_stand e)

  -- what a machine's turn is to have: numbers that only grow, and a trim that it met
  pub record TurnFar {M E : Type 0} (n0 : ℕ) (p : Layout) (t : Turn M E) : Type 0 where
    pub up : n0 ≤ t.next
    pub gone : GoneOk p t.gone

  -- what it has to be
  abbrev pub NewerOk : (Layout → Type 0) → ℕ → Client m → Work m → Task m → ℕ → ℕ → Layout → Type 0
  NewerOk D n0 c w (Reconfiguring r) n rid q = D (on_reconf m c w (reconf_latest r r.work n rid q c.next)).now.stand → NextOnto c.stand (reconf_latest r r.work n rid q c.next).to
  NewerOk D n0 c w (Walking v os) n rid q = Onto c.stand q × TurnFar n0 q (walk_again q v c.next)
  NewerOk D n0 c w (Appending a y) n rid q = Onto c.stand q × TurnFar n0 q (append_again q a c.next)
  NewerOk D n0 c w t n rid q = Onto c.stand q

  -- what it has to tell
  abbrev pub TaskHeard : (Layout → Type 0) → ℕ → Client m → Work m → Task m → ℕ → ℕ → Reply → Type 0
  TaskHeard D n0 c w (Syncing s) n rid x = SyncHeard c.stand (reached c.stand) (past c.stand) (told c.stand) (IsPast m l c.view w.at w.gone_before) s n x c.next × TurnFar n0 c.stand (sync_feed c.stand s s.work n x c.next)
  TaskHeard D n0 c w (Walking v os) n rid x = TurnFar n0 c.stand (walk_feed c.stand v v.job n x c.next)
  TaskHeard D n0 c w (Appending a y) n rid x = AppendHeard c.stand (reached c.stand) (past c.stand) (told c.stand) (upto m c) a n x c.next × TurnFar n0 c.stand (append_feed c.stand a a.work n x c.next)
  TaskHeard D n0 c w (Reconfiguring r) n rid x = D (on_reconf m c w (reconf_feed r r.work n rid x c.next)).now.stand → NextOnto c.stand (reconf_feed r r.work n rid x c.next).to
  TaskHeard D n0 c w t n rid x = Unit {0}

  -- what an awaited answer, or a newer layout, has to tell
  pub record Hears (D : Layout → Type 0) (n0 : ℕ) (c : Client m) (from : NodeId) (rid : ℕ) (y : Msg) : Type 0 where
    pub answer : (w : Work m) (t : Task m) → c.work ≡ Some w → w.hand ≡ Doing t → awaits (task_awaited m c.stand t) from rid ≡ true → TaskHeard D n0 c w t from.num rid (reply y)
    pub newer : (w : Work m) (q : Layout) → c.work ≡ Some w → reply y ≡ IsLatest q → (node_eq from (layout_id from.num) && nat_lt c.stand.epoch q.epoch) ≡ true → NewerOk D n0 c w (task_in m w.hand) from.num rid q

module _ (m : Meaning) (l : Log) (reached past : Layout → ℕ → Type 0) (told : Layout → ℕ → (ℕ → Type 0) → Type 0) (low : (p : Layout) (t : ℕ) → t ≤ p.start → past p t) (down : (p : Layout) (t u : ℕ) → u ≤ t → past p t → past p u)
    (n0 : ℕ) (new : (p : Layout) (r : ℕ) (G : ℕ → Type 0) → n0 ≤ r → told p r G) (D : Layout → Type 0) where
  none_gone : (p : Layout) → GoneOk m l reached past told p 0
  none_gone p o q less i = absurd (omega (arith, less))

  gone_max : (p : Layout) (a b : ℕ) → GoneOk m l reached past told p a → GoneOk m l reached past told p b → GoneOk m l reached past told p (max a b)
  gone_max p a b f g = by (which a b)
    where
      which : (a b : ℕ) → (max a b ≡ a) ⊎ (max a b ≡ b)
      which a b = grind arith

      by : (max a b ≡ a) ⊎ (max a b ≡ b) → GoneOk m l reached past told p (max a b)
      by (inl e) = subst (GoneOk m l reached past told p) (sym e) f
      by (inr e) = subst (GoneOk m l reached past told p) (sym e) g

  gone_onto : (p q : Layout) (g : ℕ) → Onto m l reached past told p q → GoneOk m l reached past told p g → GoneOk m l reached past told q g
  gone_onto p q g f k o i less s = let x = k o i less s in record { top = x.top; saved = x.saved; is_past = f x.top x.is_past }

  -- Along a turn.

  -- what a machine that begins is to have of its client
  record Bounds (p : Layout) (next pos trim : ℕ) : Type 0 where
    pub up : n0 ≤ next
    pub at : past p pos
    pub gone : GoneOk m l reached past told p trim

  abbrev Stands : Client m → Work m → Type 0
  Stands c w = Bounds c.stand c.next w.at w.gone

  abbrev Roams : Client m → Work m → Type 0
  Roams c w = Stands c w × EndBelow m l reached past told c w

  abbrev Rest : Client m → Work m → Place m → Type 0
  Rest c w (Feeds t n rid x) = (n0 ≤ c.next) × TaskKept m l reached past told c w t × TaskFar m l reached past told c w t × TaskHeard m l reached past told D n0 c w t n rid x
  Rest c w (Newer t n rid q) = (n0 ≤ c.next) × TaskKept m l reached past told c w t × NewerOk m l reached past told D n0 c w t n rid q
  Rest c w (OnSync bs to) = Roams c w × GoneOk m l reached past told c.stand w.gone_before × far.SyncNext c.stand (reached c.stand) (past c.stand) (told c.stand) (IsPast m l c.view w.at w.gone_before) to × ((s : Sync) × (s.oids ≡ w.oids) × KeepsStreams s to)
  Rest c w (OnAppend y bs to) = Stands c w × far.AppendNext c.stand (reached c.stand) (past c.stand) (told c.stand) (upto m c) to
  Rest c w (OnTrims b to) = Unit {0}
  Rest c w (OnCopy x to) = Unit {0}
  Rest c w (OnReconf to) = D (reconf_to m c w to).now.stand → NextOnto m l reached past told c.stand to
  Rest c w (Plays es p) = Stands c w
  Rest c w (Looks at o q) = Unit {0}
  Rest c w (RescuesAt at) = Roams c w
  Rest c w p = Roams c w × past c.stand w.tail

  abbrev At : Client m → Work m → Place m → Type 0
  At c w p = past c.stand (upto m c) × Rest c w p

  met_trim : (p : Layout) (at gone : ℕ) {M E : Type 0} (t : Turn M E) → past p at → GoneOk m l reached past told p gone → TurnFar m l reached past told n0 p t → Bounds p t.next at (max gone t.gone)
  met_trim p at gone t k g u = record { up = u.up; at = k; gone = gone_max p gone t.gone g u.gone }

  way : (c : Client m) (w : Work m) (p : Place m) (d : Client m) (v : Work m) (q : Place m) → Way m c w p d v q → At c w p → At d v q
  unfolding sync_start
  way c w _ _ _ _ (FeedsSync s n rid x) (k, (le, f, g, h)) = (
    k,
    (
      (met_trim c.stand w.at w.gone (sync_fed m c s n x) f.0.at f.0.gone h.1, f.1),
      g.1,
      sync_far c.stand (reached c.stand) (past c.stand) (told c.stand) (low c.stand) n0 (new c.stand) (IsPast m l c.view w.at w.gone_before) s n x c.next h.0 g.0,
      (s, f.2, syncs_keep_streams c.stand s n x c.next),
    ),
  )
  way c w _ _ _ _ (FeedsWalk y os n rid x) (k, (le, f, g, h)) = (k, ((met_trim c.stand w.at w.gone (walk_fed m c y n x) f.0.at f.0.gone h, f.1), f.2))
  way c w _ _ _ _ (FeedsAppend a y n rid x) (k, (le, f, g, h)) = (
    k,
    (
      met_trim c.stand w.at w.gone (append_fed m c a n x) f.0.at f.0.gone h.1,
      append_far c.stand (reached c.stand) (past c.stand) (told c.stand) (low c.stand) n0 (new c.stand) (upto m c) a n x c.next le h.0 (f.1, g),
    ),
  )
  way c w _ _ _ _ (FeedsTrims t n rid x) (k, r) = (k, tt)
  way c w _ _ _ _ (FeedsCopy y n rid x) (k, r) = (k, tt)
  way c w _ _ _ _ (FeedsReconf r n rid x) (k, (le, f, g, h)) = (k, h)
  way c w _ _ _ _ (NewerSync s n rid q) (k, (le, f, o)) =
      let gone = gone_onto c.stand q w.gone o f.0.gone in
      (o (upto m c) k, ((record { up = omega (arith, le); at = o w.at f.0.at; gone = gone_max q w.gone 0 gone (none_gone q) }, f.1), gone, new q c.next (IsPast m l c.view w.at w.gone) le, (s, f.2, refl)))
  way c w _ _ _ _ (NewerWalk y os n rid q) (k, (le, f, o)) = (o.0 (upto m c) k, ((met_trim q w.at w.gone (walk_again q y c.next) (o.0 w.at f.0.at) (gone_onto c.stand q w.gone o.0 f.0.gone) o.1, f.1), o.0 w.tail f.2))
  way c w _ _ _ _ (NewerAppend a y n rid q) (k, (le, f, o)) = (
    o.0 (upto m c) k,
    (
      met_trim q w.at w.gone (append_again q a c.next) (o.0 w.at f.0.at) (gone_onto c.stand q w.gone o.0 f.0.gone) o.1,
      again_far q (reached q) (past q) (told q) (low q) n0 (new q) (upto m c) a c.next le f.1,
    ),
  )
  way c w _ _ _ _ (NewerTrims t n rid q) (k, (le, f, o)) = (o (upto m c) k, tt)
  way c w _ _ _ _ (NewerCopy x n rid q e) (k, (le, f, o)) = (o (upto m c) k, tt)
  way c w _ _ _ _ (NewerReconf r n rid q) (k, (le, f, o)) = (k, o)
  way c w _ _ _ _ (Confirms bs t ls) (k, (r, g, n, i)) = (k, (r, n.1))
  way c w _ _ _ _ (Settles bs t ls s) (k, (r, g, n, i)) = (k, (r, n.1))
  way c w _ _ _ _ (MetHigh o os x b e f z) (k, (r, t)) = (low c.stand 0 (omega arith), ((r.0, λ i. omega arith), t))
  way c w _ _ _ _ (StartsOver o os x b e f z) (k, (r, t)) = (low c.stand 0 (omega arith), ((r.0, λ i. omega arith), t))
  way c w _ _ _ _ x k = k

  -- how far a view is played that has played
  target_past : (c : Client m) (w : Work m) → past c.stand w.at → past c.stand w.tail → past c.stand (play_target m w w.command)
  target_past c w f t = by w.command
    where
      by : (x : CommandOf m) → past c.stand (play_target m w x)
      by cmd.End = f
      by x = t

  played_past : (c : Client m) (w : Work m) → past c.stand (upto m c) → past c.stand w.at → past c.stand w.tail → past c.stand (played_view m c w).upto
  played_past c w k f t = by (which (upto m c) (play_target m w w.command))
    where
      which : (a b : ℕ) → (a ≤ b) ⊎ (b ≤ a)
      which a b = grind arith

      by : (upto m c ≤ play_target m w w.command) ⊎ (play_target m w w.command ≤ upto m c) → past c.stand (played_view m c w).upto
      by (inl le) = down c.stand (play_target m w w.command) (played_view m c w).upto (played_low m c w (play_target m w w.command) le (omega arith)) (target_past c w f t)
      by (inr le) = down c.stand (upto m c) (played_view m c w).upto (played_low m c w (upto m c) (omega arith) le) k

  walked_way : (c : Client m) (w : Work m) (d : Client m) (q : Place m) → AllWalked m c w d q → At c w (Walks []) → At d w q
  walked_way c w _ _ (HasPlayed of) (k, (r, t)) = (played_past c w k r.0.at t, r.0)
  walked_way c w _ _ (LooksBack at o q of) (k, (r, t)) = (k, tt)
  walked_way c w _ _ (IsRescue at of) (k, (r, t)) = (k, r)

  abbrev Fine : Moved m → Type 0
  Fine x = D x.now.stand → Far m l reached past told x.now

  syncs_fine : (c : Client m) (w : Work m) (os : List Oid) → past c.stand (upto m c) → Roams c w → Far m l reached past told (syncs m c w os).now
  unfolding syncs sync_start
  syncs_fine c w os k r = record { view = k; work = ((record { at = r.0.at; gone = r.0.gone }, r.1, refl), (new c.stand c.next (IsPast m l c.view w.at w.gone) r.0.up, r.0.gone)) }

  appends_fine : (c : Client m) (w : Work m) (e : Entry) (y : Purpose m) (ns : List (NoteOf m)) → past c.stand (upto m c) → Stands c w → Far m l reached past told (appends m c w e y ns).now
  unfolding appends append_start
  appends_fine c w e y ns k b = record { view = k; work = ((record { at = b.at; gone = b.gone }, λ t i. absurd (no t i)), new c.stand c.next (λ pos. upto m c ≤ pos) b.up) }
    where
      no : {X : Type 0} (t : X) → None ≡ Some t → ⊥
      no t i = cc

  went : (c : Client m) (w : Work m) (p : Place m) (d : Client m) (t : Task m) (bs : List Out) → IsGoing m c w p d t bs → At c w p → Fine (goes_on m d w t bs)
  went c w _ _ _ _ (SyncGoes bs s) (k, (r, g, n, i)) d = record { view = k; work = ((record { at = r.0.at; gone = r.0.gone }, r.1, i.2 ∙ i.1), (n, g)) }
  went c w _ _ _ _ (WalkGoes o os x) (k, (r, t)) d = record { view = k; work = ((record { at = r.0.at; gone = r.0.gone }, r.1, t), tt) }
  went c w _ _ _ _ (WalkBegins o os x e) (k, (r, t)) d = record { view = k; work = ((record { at = r.0.at; gone = r.0.gone }, r.1, t), tt) }
  went c w _ _ _ _ (AppendGoes y bs a) (k, (b, g)) d = record { view = k; work = ((record { at = b.at; gone = b.gone }, g.0), g.1) }
  went c w _ _ _ _ (ReconfGoes r) (k, f) d = record { view = f d (upto m c) k; work = (tt, tt) }
  went c w _ _ _ _ x (k, r) d = record { view = k; work = (tt, tt) }

  learnt : (c : Client m) (w : Work m) (p : Place m) (t : Task m) → IsLearning m c w p t → At c w p → Fine (learns_for m c w t)
  learnt c w _ _ (SyncLearns bs s) (k, (r, g, n, i)) d = record { view = k; work = (record { at = r.0.at; gone = r.0.gone }, r.1, i.2 ∙ i.1) }
  learnt c w _ _ (WalkLearns o os x) (k, (r, t)) d = record { view = k; work = (record { at = r.0.at; gone = r.0.gone }, r.1, t) }
  learnt c w _ _ (AppendLearns y bs a) (k, (b, g)) d = record { view = k; work = (record { at = b.at; gone = b.gone }, g) }
  learnt c w _ _ x (k, r) d = record { view = k; work = tt }

  synced_at : (c : Client m) (w : Work m) (p : Place m) (d : Client m) (v : Work m) (os : List Oid) → IsSynced m c w p d v os → At c w p → past d.stand (upto m d) × Roams d v
  synced_at c w _ _ _ _ (JudgedAt bs p d) (k, (b, g)) = (k, (record { up = b.up; at = g.1; gone = b.gone }, λ i. g.0))
  synced_at c w _ _ _ _ (StaleLow o os x b e f) (k, (r, t)) = (k, r)
  synced_at c w _ _ _ _ (StaleHigh o os x b e f) (k, (r, t)) = (low c.stand 0 (omega arith), (r.0, λ i. omega arith))
  synced_at c w _ _ _ _ (Widens at o e) (k, r) = (k, r)

  refused : (c : Client m) (w : Work m) (p : Place m) (d : Client m) (n : ℕ) (why : Refusal) → IsRefused m c w p d n why → At c w p → D d.stand → past d.stand (upto m d)
  refused c w _ _ _ _ (ReconfOvertaken e p) (k, f) d = f d (upto m c) k
  refused c w _ _ _ _ (ReconfNotWhole u pos p) (k, f) d = f d (upto m c) k
  refused c w _ _ _ _ (CopyFault x n rid q why e) (k, (le, f, o)) d = o (upto m c) k
  refused c w _ _ _ _ x (k, r) d = k

  took_over_past : (c : Client m) (v : Option (View m)) → past c.stand (upto m c) → past (took_over m c v).stand (upto m (took_over m c v))
  took_over_past c None k = k
  took_over_past c (Some v) k = k

  answered : (c : Client m) (w : Work m) (p : Place m) (d : Client m) (n : ℕ) (what : WhatOf m) → IsAnswered m c w p d n what → At c w p → past d.stand (upto m d)
  answered c w _ _ _ _ (DecidedAt x bs p d e) (k, r) = k
  answered c w _ _ _ _ x (k, r) = k

  told_past : (c : Client m) (w : Work m) (p : Place m) (d : Client m) (ns : List (NoteOf m)) → IsTold m c w p d ns → At c w p → D d.stand → past d.stand (upto m d)
  told_past c w _ _ _ (IsMarked n o j bs p d) (k, r) e = took_over_past (owns m c p d) c.view k
  told_past c w _ _ _ (IsInstalled e p) (k, f) d = f d (upto m c) k
  told_past c w _ _ _ x (k, r) d = k

  ends_fine : (c : Client m) (w : Work m) (p : Place m) (x : Moved m) → End m c w p x → At c w p → Fine x
  ends_fine c w p _ (GoesOn d t bs x) k = went c w p d t bs x k
  ends_fine c w p _ (LearnsNewer t x) k = learnt c w p t x k
  ends_fine c w p _ (Syncs d v os x) k = let s = synced_at c w p d v os x k in λ e. syncs_fine d v os s.0 s.1
  ends_fine c w _ _ (Appends _ _ _ _ (RescueDecides at so e is i)) (k, r) = λ d. appends_fine _ w _ _ _ k r.0
  ends_fine c w _ _ (Appends _ _ _ _ x) (k, b) = λ d. appends_fine _ w _ _ _ k b
  ends_fine c w p _ (Refuses d n why x) k = λ e. record { view = refused c w p d n why x k e; work = tt }
  ends_fine c w p _ (Answers d n what x) k = λ e. record { view = took_over_past d d.view (answered c w p d n what x k); work = tt }
  ends_fine c w p _ (Tells d ns x) k = λ e. record { view = told_past c w p d ns x k e; work = tt }

  -- Commands.

  -- a step that begins no work, and leaves the view or gives it up
  left : (c d : Client m) → d.stand ≡ c.stand → d.work ≡ None → (d.view ≡ c.view) ⊎ (d.view ≡ None) → Far m l reached past told c → Far m l reached past told d
  left c d e f v k = record { view = subst (λ (p : Layout). past p (upto m d)) (sym e) (by v); work = subst (WorkFar m l reached past told d) (sym f) tt }
    where
      by : (d.view ≡ c.view) ⊎ (d.view ≡ None) → past c.stand (upto m d)
      by (inl i) = subst (λ (u : Option (View m)). past c.stand (upto_in m u)) (sym i) k.view
      by (inr i) = subst (λ (u : Option (View m)). past c.stand (upto_in m u)) (sym i) (low c.stand 0 (omega arith))

  fresh : (c : Client m) (x : CommandOf m) → n0 ≤ c.next → Stands c (new_work m x)
  fresh c x le = record { up = le; at = low c.stand 0 (omega arith); gone = none_gone c.stand }

  not_end : (c : Client m) (x : CommandOf m) → IsWalked m c x → x ≡ cmd.End → ⊥
  not_end c _ (WalksAsk o q t is none) e = cc
  not_end c _ x e = cc

  -- a reconfiguration begins in this layout
  starts_onto : (c : Client m) (x : Changed) → NextOnto m l reached past told c.stand (reconf_start c.stand c.layouts x c.num c.next).to
  unfolding reconf_start
  starts_onto c x = by x.join
    where
      by : (j : Option Join) → NextOnto m l reached past told c.stand (first_step (record { change = x; me = c.num; layouts = c.layouts; stand = c.stand; work = SealingSpare 0 }) c.next j).to
      by None = λ t h. h
      by (Some j) = λ t h. h

  takes_fine : (c : Client m) (x : CommandOf m) → c.work ≡ None → n0 ≤ c.next → Far m l reached past told c → (y : Moved m) → Taken m c x y → Far m l reached past told y.now
  takes_fine c _ free le k _ (SaidAtOnce _ _ _ (Hosts o is)) = left c _ refl free (inr refl) k
  takes_fine c _ free le k _ (SaidAtOnce _ _ _ s) = left c _ refl free (inl refl) k
  takes_fine c _ free le k _ (SyncsFirst x i) = syncs_fine c (new_work m x) c.hosted k.view (fresh c x le, λ e. absurd (not_end c x i e))
  takes_fine c _ free le k _ (AppendsRecord t y is some f) = appends_fine c (new_work m cmd.End) _ y _ k.view (fresh c cmd.End le)
  takes_fine c _ free le k _ (ReconfBegins x n r is) = record { view = subst (λ (t : Turn Reconf ReconfEnd). NextOnto m l reached past told c.stand t.to) is (starts_onto c x) (upto m c) k.view; work = (tt, tt) }
  takes_fine c _ free le k _ (CopyBegins u r s) = record { view = k.view; work = (tt, tt) }

  -- Turns.

  pub called : (c : Client m) (n i : ℕ) → Far m l reached past told c → Far m l reached past told (record c { calls = n; next = i })
  called c n i k = record { view = k.view; work = by c.work k.work }
    where
      task : (w : Work m) (t : Task m) → TaskKept m l reached past told c w t → TaskKept m l reached past told (record c { calls = n; next = i }) w t
      task w (Syncing s) f = (record { at = f.0.at; gone = f.0.gone }, f.1, f.2)
      task w (Walking v os) f = (record { at = f.0.at; gone = f.0.gone }, f.1, f.2)
      task w (Appending a y) f = (record { at = f.0.at; gone = f.0.gone }, f.1)
      task w (Trimming t) f = tt
      task w (Copying' x) f = tt
      task w (Reconfiguring r) f = tt

      far_task : (w : Work m) (t : Task m) → TaskFar m l reached past told c w t → TaskFar m l reached past told (record c { calls = n; next = i }) w t
      far_task w (Syncing s) f = f
      far_task w (Walking v os) f = tt
      far_task w (Appending a y) f = f
      far_task w (Trimming t) f = tt
      far_task w (Copying' x) f = tt
      far_task w (Reconfiguring r) f = tt

      by : (w : Option (Work m)) → WorkFar m l reached past told c w → WorkFar m l reached past told (record c { calls = n; next = i }) w
      by None f = tt
      by (Some w) f = hand w.hand f
        where
          hand : (d : Hand m) → HandFar m l reached past told c w d → HandFar m l reached past told (record c { calls = n; next = i }) w d
          hand (Doing t) g = (task w t g.0, far_task w t g.1)
          hand (Learning ws t) g = task w t g

  pub command_fine : (c : Client m) (x : CommandOf m) → n0 ≤ c.next → Far m l reached past told c → Far m l reached past told (client_command m c x).now
  unfolding client_command
  command_fine c x le k = called (refused_or m c x (refusal m c x)).now _ _ (commanded m (λ y. Far m l reached past told y.now) c x (λ why e. k) (λ e. takes_fine c x (not_busy m c x e) le k))

  kept_of : (c : Client m) (w : Work m) (d : Hand m) → HandFar m l reached past told c w d → TaskKept m l reached past told c w (task_in m d)
  kept_of c w (Doing t) f = f.0
  kept_of c w (Learning ws t) f = f

  pub deliver_fine : (c : Client m) (from : NodeId) (rid : ℕ) (y : Msg) → n0 ≤ c.next → Far m l reached past told c → Hears m l reached past told D n0 c from rid y → D (client_deliver m c from rid y).now.stand → Far m l reached past told (client_deliver m c from rid y).now
  unfolding client_deliver
  deliver_fine c from rid y le k g d = called (feed m c c.work from rid (reply y)).now _ _ (delivered m At Fine ends_fine way (over_walks m At Fine ends_fine walked_way) c from rid (reply y) (λ e. k)
      (λ w t has doing a other. let f = subst (HandFar m l reached past told c w) doing (subst (WorkFar m l reached past told c) has k.work) in (k.view, (le, f.0, f.1, g.answer w t has doing a)))
      (λ w q has is a. (k.view, (le, kept_of c w w.hand (subst (WorkFar m l reached past told c) has k.work), g.newer w q has is a))) d)

  pub tick_fine : (c : Client m) → Far m l reached past told c → Far m l reached past told (client_tick m c).now
  unfolding client_tick
  tick_fine c k = by c.work
    where
      by : (w : Option (Work m)) → Far m l reached past told (tick_by m c w).now
      by None = called c _ _ k
      by (Some w) = called c _ _ k
