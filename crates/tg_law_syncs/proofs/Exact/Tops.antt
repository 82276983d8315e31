-- How far the bases of a client's view save, through each of its turns: not past what was confirmed to it, and so not past the
-- tails of its later syncs.
use Rattle.std.proofs.Common.{◌≡◌, ℕ, ◌≤◌, List, [], true, refl, sym, ap, ◌∙◌, subst, arith, Option, Some, None}
use Rattle.std.specs.Prelude.{nat_lt, ◌&&◌}
use Rattle.tg_base.specs.Changes.{Changed}
use Rattle.tg_base.specs.Layouts.{Layout}
use Rattle.tg_base.specs.declared.change.Join.{Join}
use Rattle.tg_base.specs.declared.ids.NodeId.{NodeId}
use Rattle.tg_base.specs.declared.ids.Oid.{Oid}
use Rattle.tg_base.specs.declared.msg.Msg.{Msg}
use Rattle.tg_base.specs.declared.packet.Out.{Out}
use Rattle.tg_kind.specs.Meaning.{Meaning}
use Rattle.tg_model.specs.Kinds.{CommandOf, WhatOf, NoteOf}
use Rattle.tg_model.specs.declared.refusal.Refusal.{Refusal}
use Rattle.tg_base.specs.Orders.{node_eq, with_oid}
use Rattle.tg_protocol.specs.Words.{layout_id}
use Rattle.tg_protocol.specs.Requests.{awaits, Next, Goes, Learns, Ends, Turn}
use Rattle.tg_protocol.specs.Replies.{Reply, reply, IsLatest}
use Rattle.tg_protocol.specs.Appending.{append_start, append_feed, append_again}
use Rattle.tg_protocol.specs.Syncing.{sync_start, sync_feed}
use Rattle.tg_protocol.specs.Walking.{walk_feed, walk_again}
use Rattle.tg_protocol.specs.Reconfiguring.{Reconf, ReconfEnd, SealingSpare, first_step, reconf_feed, reconf_latest, reconf_start}
use Rattle.tg_protocol.specs.Views.{Entries, View, Base, base_of, view_start}
use Rattle.tg_protocol.specs.Checkpoints.{view_bases}
use Rattle.tg_protocol.specs.Clients.{Task, Syncing, Walking, Appending, Reconfiguring, Hand, Doing, Learning, Work, Client, refusal, all_entries}
use Rattle.tg_protocol.specs.Answers.{Moved, took_over, appends, syncs, own_view, view_or_new, play_target}
use Rattle.tg_protocol.specs.ClientSteps.{goes_on, owns, task_in, task_awaited, reconf_to, on_reconf, refused_or, client_command, client_deliver, client_tick, tick_by, feed, learns_for}
use Rattle.tg_law_layouts.proofs.Layouts.Phases.{end_stand}
use Rattle.tg_law_layouts.proofs.Moves.Turns.{not_busy}
use Rattle.tg_law_replies.specs.Plays.Sound.{base_among}
use Rattle.tg_law_replies.specs.Replies.Steps.{EachWalk, EachSync, EachEnd, EachWalked, EachFeed, EachNewer, EachDelivery}
use Rattle.tg_law_replies.proofs.Views.Settled.{plays_further}
use Rattle.tg_law_syncs.proofs.Known.Far as far
use Rattle.tg_law_syncs.proofs.Known.Far.{SyncFar, SyncHeard, sync_far}
use Rattle.tg_law_replies.proofs.Replies.Ways.{each_way, each_fed, each_newer}
use Rattle.tg_law_replies.proofs.Replies.Reached.{each_delivered}
use Rattle.tg_law_syncs.proofs.Known.Ways.{played_view}
use Rattle.tg_law_steps.proofs.Places.{Place, Feeds, Newer, OnSync, OnWalk, OnAppend, OnReconf, Over, Walks, Rescues as RescuesAt}
use Rattle.tg_law_steps.proofs.Ways.{Way, FeedsSync, FeedsWalk, FeedsAppend, FeedsTrims, FeedsCopy, FeedsReconf, NewerSync, NewerWalk, NewerAppend, NewerTrims, NewerCopy, NewerReconf, Confirms, Settles, EndsAtOnce, MetLow, MetHigh, StartsOver, AllWalked, HasPlayed, LooksBack, IsRescue}
use Rattle.tg_law_steps.proofs.Ends.{IsGoing, SyncGoes, WalkGoes, WalkBegins, ReconfGoes, IsLearning, WalkLearns, IsSynced, StaleLow, StaleHigh, MarkBegins, IsRefused, ReconfOvertaken, ReconfNotWhole, CopyFault, IsAnswered, DecidedAt, IsTold, IsMarked, IsInstalled, End, GoesOn, LearnsNewer, Syncs, Appends, Refuses, Answers, Tells}
use Rattle.tg_law_steps.proofs.Takes.{Hosts, Taken, SaidAtOnce, SyncsFirst, ReconfBegins, said_work}
use Rattle.tg_law_steps.proofs.Along.{NoLatest, delivered, commanded, over_walks}

module _ (m : Meaning) where
  -- what is so of each base of a view, by the position up to which it saves
  abbrev pub Bases : (ℕ → Type 0) → Option (View m) → Type 0
  Bases G view = (v : View m) (o : Oid) (b : Base m) → view ≡ Some v → base_of m v o ≡ Some b → G b.upto

  abbrev pub Below : Option (View m) → ℕ → Type 0
  Below view t = Bases (λ u. u ≤ t) view

  -- a new view's bases aren't past the tail
  abbrev pub NewBelow : Client m → Work m → Type 0
  NewBelow c w = (o : Oid) (b : Base m) → base_of m (view_start m (view_bases m (all_entries m c w c.hosted) w.trims c.objects c.hosted)) o ≡ Some b → b.upto ≤ w.tail

  pub none_bases : (G : ℕ → Type 0) → Bases G None
  none_bases G v o b is = absurd (no v is)
    where
      no : (v : View m) → None ≡ Some v → ⊥
      no v e = cc

module _ (m : Meaning) (reached past : Layout → ℕ → Type 0) (told : Layout → ℕ → (ℕ → Type 0) → Type 0) where
  abbrev pub Onto : Layout → Layout → Type 0
  Onto p q = (t : ℕ) → past p t → past q t

  -- of a task, whatever it awaits
  abbrev pub TaskKept : Client m → Work m → Task m → Type 0
  TaskKept c w (Walking k os) = Below m c.view w.tail × past c.stand w.tail
  TaskKept c w t = Unit {0}

  abbrev pub TaskFar : Client m → Task m → Type 0
  TaskFar c (Syncing s) = SyncFar c.stand (reached c.stand) (past c.stand) (told c.stand) (Below m c.view) s.work
  TaskFar c t = Unit {0}

  abbrev pub HandFar : Client m → Work m → Hand m → Type 0
  HandFar c w (Doing t) = TaskKept c w t × TaskFar c t
  HandFar c w (Learning ws t) = TaskKept c w t

  abbrev pub WorkFar : Client m → Option (Work m) → Type 0
  WorkFar c None = Unit {0}
  WorkFar c (Some w) = HandFar c w w.hand

  pub record Topped (c : Client m) : Type 0 where
    pub view : Bases m (past c.stand) c.view
    pub work : WorkFar c c.work

  -- a reconfiguration goes on in this layout or in a later one
  abbrev pub NextOnto : Layout → Next Reconf ReconfEnd → Type 0
  NextOnto p (Goes r) = Onto p r.stand
  NextOnto p (Learns r) = Unit {0}
  NextOnto p (Ends e) = Onto p (end_stand e)

  -- what an awaited answer, or a newer layout, has to tell

  abbrev pub TaskHeard : (Layout → Type 0) → ℕ → Client m → Work m → Task m → ℕ → ℕ → Reply → Type 0
  TaskHeard D n0 c w (Syncing s) n rid x = SyncHeard c.stand (reached c.stand) (past c.stand) (told c.stand) (Below m c.view) s n x c.next × (n0 ≤ (sync_feed c.stand s s.work n x c.next).next)
  TaskHeard D n0 c w (Walking v os) n rid x = n0 ≤ (walk_feed c.stand v v.job n x c.next).next
  TaskHeard D n0 c w (Appending a y) n rid x = n0 ≤ (append_feed c.stand a a.work n x c.next).next
  TaskHeard D n0 c w (Reconfiguring r) n rid x = D (on_reconf m c w (reconf_feed r r.work n rid x c.next)).now.stand → NextOnto c.stand (reconf_feed r r.work n rid x c.next).to
  TaskHeard D n0 c w t n rid x = Unit {0}

  abbrev pub NewerOk : (Layout → Type 0) → ℕ → Client m → Work m → Task m → ℕ → ℕ → Layout → Type 0
  NewerOk D n0 c w (Reconfiguring r) n rid q = D (on_reconf m c w (reconf_latest r r.work n rid q c.next)).now.stand → NextOnto c.stand (reconf_latest r r.work n rid q c.next).to
  NewerOk D n0 c w (Walking v os) n rid q = Onto c.stand q × (n0 ≤ (walk_again q v c.next).next)
  NewerOk D n0 c w (Appending a y) n rid q = Onto c.stand q × (n0 ≤ (append_again q a c.next).next)
  NewerOk D n0 c w t n rid q = Onto c.stand q

  pub record Hears (D : Layout → Type 0) (n0 : ℕ) (c : Client m) (from : NodeId) (rid : ℕ) (y : Msg) : Type 0 where
    pub answer : (w : Work m) (t : Task m) → c.work ≡ Some w → w.hand ≡ Doing t → awaits (task_awaited m c.stand t) from rid ≡ true → TaskHeard D n0 c w t from.num rid (reply y)
    pub newer : (w : Work m) (q : Layout) → c.work ≡ Some w → reply y ≡ IsLatest q → (node_eq from (layout_id from.num) && nat_lt c.stand.epoch q.epoch) ≡ true → NewerOk D n0 c w (task_in m w.hand) from.num rid q

module _ (m : Meaning) (objects : List Oid) (es : Entries) (reached past : Layout → ℕ → Type 0) (told : Layout → ℕ → (ℕ → Type 0) → Type 0) (low : (p : Layout) (t : ℕ) → t ≤ p.start → past p t) (down : (p : Layout) (t u : ℕ) → u ≤ t → past p t → past p u)
    (n0 : ℕ) (new : (p : Layout) (r : ℕ) (G : ℕ → Type 0) → n0 ≤ r → told p r G) (D : Layout → Type 0) where
  abbrev View' : Client m → Type 0
  View' c = Bases m (past c.stand) c.view

  some_view : (u v : View m) → Some u ≡ Some v → u ≡ v
  some_view u v e = cc

  played_bases : (c : Client m) (w : Work m) → View' c → past c.stand w.tail → NewBelow m c w → Bases m (past c.stand) (Some (played_view m c w))
  played_bases c w k t f v o b is at =
      let own = all_entries m c w c.hosted in
      let same = (plays_further m own (own_view m c w own) (play_target m w w.command)).bases in
      by c.view refl (ap (λ (bs : List (Base m)). base_among m bs o) (sym same) ∙ (ap (λ (u : View m). base_of m u o) (some_view (played_view m c w) v is) ∙ at))
    where
      by : (u : Option (View m)) → c.view ≡ u → base_of m (view_or_new m c w (all_entries m c w c.hosted) u) o ≡ Some b → past c.stand b.upto
      by None e at = down c.stand w.tail b.upto (f o b at) t
      by (Some u) e at = k u o b e at

  moved_on : (p q : Layout) (view : Option (View m)) → Onto m reached past told p q → Bases m (past p) view → Bases m (past q) view
  moved_on p q view f k v o b is at = f b.upto (k v o b is at)

  -- Along a turn.

  abbrev Roams : Client m → Work m → Type 0
  Roams c w = (n0 ≤ c.next) × Below m c.view w.tail × past c.stand w.tail

  abbrev Rest : Client m → Work m → Place m → Type 0
  Rest c w (Feeds t n rid x) = (n0 ≤ c.next) × TaskKept m reached past told c w t × TaskFar m reached past told c t × TaskHeard m reached past told D n0 c w t n rid x × EachFeed m objects es (NewBelow m) c w t n rid x
  Rest c w (Newer t n rid q) = (n0 ≤ c.next) × TaskKept m reached past told c w t × NewerOk m reached past told D n0 c w t n rid q × EachNewer m objects es (NewBelow m) c w t q
  Rest c w (OnSync bs to) = (n0 ≤ c.next) × far.SyncNext c.stand (reached c.stand) (past c.stand) (told c.stand) (Below m c.view) to × EachSync m objects es (NewBelow m) c w to
  Rest c w (OnWalk o os to) = Roams c w × EachWalked m objects es (NewBelow m) c w o os to
  Rest c w (Over o os x g) = Roams c w × EachEnd m objects es (NewBelow m) c w o os x g
  Rest c w (Walks os) = Roams c w × EachWalk m objects es (NewBelow m) os c w
  Rest c w (OnAppend y bs to) = n0 ≤ c.next
  Rest c w (OnReconf to) = D (reconf_to m c w to).now.stand → NextOnto m reached past told c.stand to
  Rest c w (RescuesAt at) = n0 ≤ c.next
  Rest c w p = Unit {0}

  abbrev At : Client m → Work m → Place m → Type 0
  At c w p = View' c × Rest c w p

  way : (c : Client m) (w : Work m) (p : Place m) (d : Client m) (v : Work m) (q : Place m) → Way m c w p d v q → At c w p → At d v q
  unfolding sync_start
  way c w _ _ _ _ (FeedsSync s n rid x) (k, (le, f, g, h, e)) = (k, (h.1, sync_far c.stand (reached c.stand) (past c.stand) (told c.stand) (low c.stand) n0 (new c.stand) (Below m c.view) s n x c.next h.0 g, e))
  way c w _ _ _ _ (FeedsWalk y os n rid x) (k, (le, f, g, h, e)) = (k, ((h, f.0, f.1), e))
  way c w _ _ _ _ (FeedsAppend a y n rid x) (k, (le, f, g, h, e)) = (k, h)
  way c w _ _ _ _ (FeedsTrims t n rid x) (k, r) = (k, tt)
  way c w _ _ _ _ (FeedsCopy y n rid x) (k, r) = (k, tt)
  way c w _ _ _ _ (FeedsReconf r n rid x) (k, (le, f, g, h, e)) = (k, h)
  way c w _ _ _ _ (NewerSync s n rid q) (k, (le, f, o, e)) = (moved_on c.stand q c.view o k, (omega (arith, le), new q c.next (Below m c.view) le, e))
  way c w _ _ _ _ (NewerWalk y os n rid q) (k, (le, f, o, e)) = (moved_on c.stand q c.view o.0 k, ((o.1, f.0, o.0 w.tail f.1), e))
  way c w _ _ _ _ (NewerAppend a y n rid q) (k, (le, f, o, e)) = (moved_on c.stand q c.view o.0 k, o.1)
  way c w _ _ _ _ (NewerTrims t n rid q) (k, (le, f, o, e)) = (moved_on c.stand q c.view o k, tt)
  way c w _ _ _ _ (NewerCopy x n rid q i) (k, (le, f, o, e)) = (moved_on c.stand q c.view o k, tt)
  way c w _ _ _ _ (NewerReconf r n rid q) (k, (le, f, o, e)) = (k, o)
  way c w _ _ _ _ (Confirms bs t ls) (k, (le, n, e)) = (k, ((le, n.0, n.1), e))
  way c w _ _ _ _ (Settles bs t ls s) (k, (le, n, e)) = (k, ((le, n.0, n.1), e))
  way c w _ _ _ _ (EndsAtOnce o os x i) (k, (r, e)) = (k, (r, e x i))
  way c w _ _ _ _ (MetLow o os x b i j) (k, (r, e)) = (k, (r, each_way m objects es (NewBelow m) c w _ _ _ _ (MetLow o os x b i j) e))
  way c w _ _ _ _ (MetHigh o os x b i j z) (k, (r, e)) = (none_bases m (past c.stand), ((r.0, none_bases m (λ n. n ≤ w.tail), r.2), each_way m objects es (NewBelow m) c w _ _ _ _ (MetHigh o os x b i j z) e))
  way c w _ _ _ _ (StartsOver o os x b i j z) (k, (r, e)) = (none_bases m (past c.stand), ((r.0, none_bases m (λ n. n ≤ w.tail), r.2), each_way m objects es (NewBelow m) c w _ _ _ _ (StartsOver o os x b i j z) e))
  way c w _ _ _ _ x k = k

  walked_way : (c : Client m) (w : Work m) (d : Client m) (q : Place m) → AllWalked m c w d q → At c w (Walks []) → At d w q
  walked_way c w _ _ (HasPlayed of) (k, (r, f)) = (played_bases c w k r.2 f, tt)
  walked_way c w _ _ (LooksBack at o q of) (k, (r, f)) = (k, tt)
  walked_way c w _ _ (IsRescue at of) (k, (r, f)) = (k, r.0)

  abbrev Fine : Moved m → Type 0
  Fine x = D x.now.stand → Topped m reached past told x.now

  went : (c : Client m) (w : Work m) (p : Place m) (d : Client m) (t : Task m) (bs : List Out) → IsGoing m c w p d t bs → At c w p → Fine (goes_on m d w t bs)
  went c w _ _ _ _ (SyncGoes bs s) (k, (le, n, e)) d = record { view = k; work = (tt, n) }
  went c w _ _ _ _ (WalkGoes o os x) (k, (r, e)) d = record { view = k; work = ((r.1, r.2), tt) }
  went c w _ _ _ _ (WalkBegins o os x i) (k, (r, e)) d = record { view = k; work = ((r.1, r.2), tt) }
  went c w _ _ _ _ (ReconfGoes r) (k, f) d = record { view = moved_on c.stand r.stand c.view (f d) k; work = (tt, tt) }
  went c w _ _ _ _ x (k, r) d = record { view = k; work = (tt, tt) }

  learnt : (c : Client m) (w : Work m) (p : Place m) (t : Task m) → IsLearning m c w p t → At c w p → Fine (learns_for m c w t)
  learnt c w _ _ (WalkLearns o os x) (k, (r, e)) d = record { view = k; work = (r.1, r.2) }
  learnt c w _ _ x (k, r) d = record { view = k; work = tt }

  synced_at : (c : Client m) (w : Work m) (p : Place m) (d : Client m) (v : Work m) (os : List Oid) → IsSynced m c w p d v os → At c w p → View' d × (n0 ≤ d.next)
  synced_at c w _ _ _ _ (StaleLow o os x b i j) (k, (r, e)) = (k, r.0)
  synced_at c w _ _ _ _ (StaleHigh o os x b i j) (k, (r, e)) = (none_bases m (past c.stand), r.0)
  synced_at c w _ _ _ _ x k = k

  refused : (c : Client m) (w : Work m) (p : Place m) (d : Client m) (n : ℕ) (why : Refusal) → IsRefused m c w p d n why → At c w p → D d.stand → View' d
  refused c w _ _ _ _ (ReconfOvertaken e p) (k, f) d = moved_on c.stand p c.view (f d) k
  refused c w _ _ _ _ (ReconfNotWhole u pos p) (k, f) d = moved_on c.stand p c.view (f d) k
  refused c w _ _ _ _ (CopyFault x n rid q why i) (k, (le, f, o, e)) d = moved_on c.stand q c.view o k
  refused c w _ _ _ _ x (k, r) d = k

  took_over_view : (c : Client m) (v : Option (View m)) → View' c → View' (took_over m c v)
  took_over_view c None k = k
  took_over_view c (Some v) k = k

  answered : (c : Client m) (w : Work m) (p : Place m) (d : Client m) (n : ℕ) (what : WhatOf m) → IsAnswered m c w p d n what → View' c → View' d
  answered c w _ _ _ _ (DecidedAt x bs p d e) k = k
  answered c w _ _ _ _ x k = k

  told_view : (c : Client m) (w : Work m) (p : Place m) (d : Client m) (ns : List (NoteOf m)) → IsTold m c w p d ns → At c w p → D d.stand → View' d
  told_view c w _ _ _ (IsMarked n o j bs p d) (k, r) e = took_over_view (owns m c p d) c.view k
  told_view c w _ _ _ (IsInstalled e p) (k, f) d = moved_on c.stand p c.view (f d) k
  told_view c w _ _ _ x (k, r) d = k

  ends_fine : (c : Client m) (w : Work m) (p : Place m) (x : Moved m) → End m c w p x → At c w p → Fine x
  unfolding appends append_start syncs sync_start
  ends_fine c w p _ (GoesOn d t bs x) k e = went c w p d t bs x k e
  ends_fine c w p _ (LearnsNewer t x) k e = learnt c w p t x k e
  ends_fine c w p _ (Syncs d v os x) k e = let s = synced_at c w p d v os x k in record { view = s.0; work = (tt, new d.stand d.next (Below m d.view) s.1) }
  ends_fine c w _ _ (Appends _ _ _ _ (MarkBegins es p upto o n of came may)) k e = record { view = k.0; work = (tt, tt) }
  ends_fine c w _ _ (Appends _ _ _ _ x) k e = record { view = k.0; work = (tt, tt) }
  ends_fine c w p _ (Refuses d n why x) k e = record { view = refused c w p d n why x k e; work = tt }
  ends_fine c w p _ (Answers d n what x) k e = record { view = took_over_view d d.view (answered c w p d n what x k.0); work = tt }
  ends_fine c w p _ (Tells d ns x) k e = record { view = told_view c w p d ns x k e; work = tt }

  -- Commands.

  -- a reconfiguration begins in this layout
  starts_onto : (c : Client m) (x : Changed) → NextOnto m reached past told c.stand (reconf_start c.stand c.layouts x c.num c.next).to
  unfolding reconf_start
  starts_onto c x = by x.join
    where
      by : (j : Option Join) → NextOnto m reached past told c.stand (first_step (record { change = x; me = c.num; layouts = c.layouts; stand = c.stand; work = SealingSpare 0 }) c.next j).to
      by None = λ t h. h
      by (Some j) = λ t h. h

  takes_fine : (c : Client m) (x : CommandOf m) → c.work ≡ None → n0 ≤ c.next → Topped m reached past told c → (y : Moved m) → Taken m c x y → Topped m reached past told y.now
  unfolding appends append_start syncs sync_start
  takes_fine c _ free le k _ (SaidAtOnce _ _ _ (Hosts o is)) = record { view = none_bases m (past c.stand); work = subst (WorkFar m reached past told (record c { hosted = with_oid o c.hosted; view = None })) (sym free) tt }
  takes_fine c _ free le k _ (SaidAtOnce x d ns s) = record { view = k.view; work = subst (WorkFar m reached past told d) (sym (said_work m c x d ns s ∙ free)) tt }
  takes_fine c _ free le k _ (SyncsFirst x i) = record { view = k.view; work = (tt, new c.stand c.next (Below m c.view) le) }
  takes_fine c _ free le k _ (ReconfBegins x n r is) = record { view = moved_on c.stand r.stand c.view (subst (λ (t : Turn Reconf ReconfEnd). NextOnto m reached past told c.stand t.to) is (starts_onto c x)) k.view; work = (tt, tt) }
  takes_fine c _ free le k _ x = record { view = k.view; work = (tt, tt) }

  -- Turns.

  called : (c : Client m) (n i : ℕ) → Topped m reached past told c → Topped m reached past told (record c { calls = n; next = i })
  called c n i k = record { view = k.view; work = by c.work k.work }
    where
      task : (w : Work m) (t : Task m) → TaskKept m reached past told c w t → TaskKept m reached past told (record c { calls = n; next = i }) w t
      task w (Walking v os) f = f
      task w t f = tt

      far_task : (t : Task m) → TaskFar m reached past told c t → TaskFar m reached past told (record c { calls = n; next = i }) t
      far_task (Syncing s) f = f
      far_task t f = tt

      hand : (w : Work m) (d : Hand m) → HandFar m reached past told c w d → HandFar m reached past told (record c { calls = n; next = i }) w d
      hand w (Doing t) g = (task w t g.0, far_task t g.1)
      hand w (Learning ws t) g = task w t g

      by : (w : Option (Work m)) → WorkFar m reached past told c w → WorkFar m reached past told (record c { calls = n; next = i }) w
      by None f = tt
      by (Some w) f = hand w w.hand f

  pub command_fine : (c : Client m) (x : CommandOf m) → n0 ≤ c.next → Topped m reached past told c → Topped m reached past told (client_command m c x).now
  unfolding client_command
  command_fine c x le k = called (refused_or m c x (refusal m c x)).now _ _ (commanded m (λ y. Topped m reached past told y.now) c x (λ why e. k) (λ e. takes_fine c x (not_busy m c x e) le k))

  pub kept_of : (c : Client m) (w : Work m) (d : Hand m) → HandFar m reached past told c w d → TaskKept m reached past told c w (task_in m d)
  kept_of c w (Doing t) f = f.0
  kept_of c w (Learning ws t) f = f

  module _ (c : Client m) (from : NodeId) (rid : ℕ) (y : Msg) (le : n0 ≤ c.next) (k : Topped m reached past told c) (g : Hears m reached past told D n0 c from rid y) (a : EachDelivery m objects es (NewBelow m) c c.work from rid (reply y)) where
    feeds_at : (w : Work m) (t : Task m) → c.work ≡ Some w → w.hand ≡ Doing t → awaits (task_awaited m c.stand t) from rid ≡ true → NoLatest (reply y) → At c w (Feeds t from.num rid (reply y))
    feeds_at w t has doing b other = let f = subst (HandFar m reached past told c w) doing (subst (WorkFar m reached past told c) has k.work) in (k.view, (le, f.0, f.1, g.answer w t has doing b, each_fed m objects es (NewBelow m) c from rid (reply y) a w t has doing b other))

    newer_at : (w : Work m) (q : Layout) → c.work ≡ Some w → reply y ≡ IsLatest q → (node_eq from (layout_id from.num) && nat_lt c.stand.epoch q.epoch) ≡ true → At c w (Newer (task_in m w.hand) from.num rid q)
    newer_at w q has is b = (k.view, (le, kept_of c w w.hand (subst (WorkFar m reached past told c) has k.work), g.newer w q has is b, each_newer m objects es (NewBelow m) c from rid (reply y) a w q has is b))

  pub deliver_fine : (c : Client m) (from : NodeId) (rid : ℕ) (y : Msg) → n0 ≤ c.next → Topped m reached past told c → Hears m reached past told D n0 c from rid y → EachDelivery m objects es (NewBelow m) c c.work from rid (reply y) → D (client_deliver m c from rid y).now.stand
      → Topped m reached past told (client_deliver m c from rid y).now
  unfolding client_deliver
  deliver_fine c from rid y le k g a d = called (feed m c c.work from rid (reply y)).now _ _
      (delivered m At Fine ends_fine way (over_walks m At Fine ends_fine walked_way) c from rid (reply y) (λ e. k) (feeds_at c from rid y le k g a) (newer_at c from rid y le k g a) d)

  -- where it ends the walks of the client
  pub delivery_below : (c : Client m) (from : NodeId) (rid : ℕ) (y : Msg) → n0 ≤ c.next → Topped m reached past told c → Hears m reached past told D n0 c from rid y → EachDelivery m objects es (NewBelow m) c c.work from rid (reply y)
      → EachDelivery m objects es (λ d w. Below m d.view w.tail) c c.work from rid (reply y)
  delivery_below c from rid y le k g a = each_delivered m objects es At (λ d w. Below m d.view w.tail) way (λ d w i. i.1.0.1) c from rid (reply y) (feeds_at c from rid y le k g a) (newer_at c from rid y le k g a)

  pub tick_fine : (c : Client m) → Topped m reached past told c → Topped m reached past told (client_tick m c).now
  unfolding client_tick
  tick_fine c k = by c.work
    where
      by : (w : Option (Work m)) → Topped m reached past told (tick_by m c w).now
      by None = called c _ _ k
      by (Some w) = called c _ _ k
