-- Through each of a client's turns: until its command plays, its view stands as it did when the command was given, or was given up
-- at a trim above; what the command reads for the view lies past it; and nothing else takes a view back.
use Rattle.std.proofs.Common.{◌≡◌, ◌⊎◌, ℕ, ◌<◌, ◌≤◌, List, [], Bool, true, refl, sym, subst, inl, inr, arith, Option, Some, None}
use Rattle.std.specs.Prelude.{◌&&◌, nat_lt, is_some}
use Rattle.tg_base.specs.declared.ids.NodeId.{NodeId}
use Rattle.tg_kind.specs.Meaning.{Meaning}
use Rattle.tg_model.specs.declared.command.Command.TheVariants as cmd
use Rattle.tg_model.specs.Kinds.{CommandOf, WhatOf, NoteOf}
use Rattle.tg_protocol.specs.Requests.{awaits, Next}
use Rattle.tg_protocol.specs.Replies.{Reply, IsGone}
use Rattle.tg_protocol.specs.Appending.{append_start}
use Rattle.tg_protocol.specs.Syncing.{sync_start}
use Rattle.tg_protocol.specs.Walking.{Walk, Members}
use Rattle.tg_protocol.specs.Views.{View}
use Rattle.tg_protocol.specs.Clients.{Purpose, Writes, Judged, Decides, Rescues, Saves, Marks, Task, Syncing, Walking, Appending, Trimming, Copying', Reconfiguring, Hand, Doing, Work, Client, upto_in, upto}
use Rattle.tg_protocol.specs.Answers.{Moved, moved, pruned, took_over, appends, syncs}
use Rattle.tg_protocol.specs.ClientSteps as step
use Rattle.tg_protocol.specs.ClientSteps.{plays_kept, after_turn, met, goes_on, start_walk, takes_back, found_by, lends, knows, synced, sync_to, on_sync, gives_up, given_up_if, starts_over, at_trim, walk_ended_by, walk_to, on_walk, decided_for, append_ended, append_to, on_append, page_known, owns, knows_page, trim_to, on_trims, copy_to, on_copy, stands, task_in, task_awaited, reconf_to, on_reconf, task_feed, task_again, copies_again, on_newer, accepts, new_work, lo_for, lasts_of}
use Rattle.tg_protocol.specs.Playing.{ReadsForView}
use Rattle.tg_law_headline.proofs.Leaves.Walks.{MetBy, goes_by, feed_by}
use Rattle.tg_law_claims.proofs.Playing.Quiet.{SyncQuiet, SyncNext, sync_quiet, AppendQuiet, AppendNext, append_quiet, append_again_quiet}
use Rattle.tg_law_claims.proofs.Playing.Past.{cell_gone, WalkPast, NextPast, goes_past, starts_past, feed_past, played_high}
use Rattle.tg_law_steps.proofs.Places.{Place, Feeds, Newer, OnSync, OnWalk, OnAppend, OnCopy, OnReconf, Over, Walks as Walks', Rescues as Rescues'}
use Rattle.tg_law_steps.proofs.Ways.{Way, FeedsSync, FeedsWalk, FeedsAppend, FeedsCopy, FeedsReconf, NewerSync, NewerWalk, NewerAppend, NewerCopy, NewerReconf, Confirms, Settles, EndsAtOnce, WalkEnds, MetNone, MetLow, MetHigh, StartsOver, own_play, AllWalked, HasPlayed, LooksBack, IsRescue}
use Rattle.tg_law_steps.proofs.Ends.{End, GoesOn, LearnsNewer, Syncs as Syncs', Appends as Appends', Refuses, Answers, Tells, WalkGoes, WalkBegins, TrimsBegin, WalkLearns, StaleHigh, Widens, MarkBegins, RecordForgotten, IsAnswered, DecidedAt, IsMarked}
use Rattle.tg_law_steps.proofs.Takes.{IsSaid, HostsAlready, Hosts, Taken, SaidAtOnce, SyncsFirst, AppendsRecord, ForWrites, ForJudged, ReconfBegins, CopyBegins, taken}
use Rattle.tg_law_steps.proofs.Along.{delivered, over_walks}

-- A command was given where the client's view stood at a position, and in this turn it stood at another; a unit has answered the
-- command that all is trimmed below a position above the first, where `Met` is had.
module _ (m : Meaning) (given : ℕ) (Met : Type 0) where
  abbrev pub Past : ℕ → Type 0
  Past p = (given ≤ p) ⊎ Met

  pub later_past : (a b : ℕ) → a ≤ b → Past a → Past b
  later_past a b le (inl k) = inl (omega (arith, le, k))
  later_past a b le (inr k) = inr k

  -- the view stands as it did when the command was given, or was given up
  abbrev pub AsGiven : Option (View m) → Type 0
  AsGiven v = (upto_in m v ≡ given) ⊎ ((v ≡ None) × Met)

  abbrev pub Walks : Walk → Type 0
  Walks k = WalkPast Past later_past k

  abbrev pub PurposeAt : Option (View m) → Purpose m → Type 0
  PurposeAt v Judged = AsGiven v
  PurposeAt v y = Unit {0}

  abbrev pub TaskAt : CommandOf m → ℕ → Option (View m) → Task m → Type 0
  TaskAt x lo v (Syncing s) = AsGiven v × SyncQuiet s.work
  TaskAt x lo v (Walking k os) = AsGiven v × (ReadsForView m x → Past lo × Walks k)
  TaskAt x lo v (Appending a y) = PurposeAt v y × AppendQuiet a.work
  TaskAt x lo v (Copying' y) = ReadsForView m x → ⊥
  TaskAt x lo v (Reconfiguring r) = ReadsForView m x → ⊥
  TaskAt x lo v t = Unit {0}

  abbrev pub WorkAt : Option (View m) → Option (Work m) → Type 0
  WorkAt v None = Unit {0}
  WorkAt v (Some w) = TaskAt w.command w.lo v (task_in m w.hand)

  -- by trims that were told meanwhile
  abbrev pub At' : Client m → Type 0
  At' c = WorkAt c.view c.work

module _ (m : Meaning) (given : ℕ) (Met Next' : Type 0) (later : Met → Next') where
  as_later : (v : Option (View m)) → AsGiven m given Met v → AsGiven m given Next' v
  as_later v (inl e) = inl e
  as_later v (inr e) = inr (e.0, later e.1)

  past_later : (p : ℕ) → Past m given Met p → Past m given Next' p
  past_later p (inl e) = inl e
  past_later p (inr e) = inr (later e)

  purpose_later : (v : Option (View m)) (y : Purpose m) → PurposeAt m given Met v y → PurposeAt m given Next' v y
  purpose_later v Judged k = as_later v k
  purpose_later v Writes k = tt
  purpose_later v (Decides x) k = tt
  purpose_later v (Rescues x) k = tt
  purpose_later v (Saves o u) k = tt
  purpose_later v (Marks n o u) k = tt

  task_later : (x : CommandOf m) (lo : ℕ) (v : Option (View m)) (t : Task m) → TaskAt m given Met x lo v t → TaskAt m given Next' x lo v t
  task_later x lo v (Syncing s) k = (as_later v k.0, k.1)
  task_later x lo v (Walking w os) k = (as_later v k.0, λ r. let y = k.1 r in (past_later lo y.0, (past_later w.lo y.1.0, λ j is. past_later j.place.pos (y.1.1 j is))))
  task_later x lo v (Appending a y) k = (purpose_later v y k.0, k.1)
  task_later x lo v (Trimming t) k = tt
  task_later x lo v (Copying' y) k = k
  task_later x lo v (Reconfiguring r) k = k

  pub work_later : (v : Option (View m)) (w : Option (Work m)) → WorkAt m given Met v w → WorkAt m given Next' v w
  work_later v None k = tt
  work_later v (Some w) k = task_later w.command w.lo v (task_in m w.hand) k

module _ (m : Meaning) (given top : ℕ) (Met : Type 0) where
  -- the view isn't behind where it stood in this turn
  abbrev pub Stays : ℕ → Type 0
  Stays u = (top ≤ u) ⊎ Met

  abbrev K : Client m → Type 0
  K c = AsGiven m given Met c.view

  abbrev J : Client m → Type 0
  J c = Stays (upto m c)

  abbrev pub Fine : Moved m → Type 0
  Fine x = WorkAt m given Met x.now.view x.now.work × Stays (upto m x.now)

  stays_on : (a b : ℕ) → a ≤ b → Stays a → Stays b
  stays_on a b le (inl k) = inl (omega (arith, le, k))
  stays_on a b le (inr k) = inr k

  idle : (d : Client m) (ns : List (NoteOf m)) → d.work ≡ None → J d → Fine (moved m d ns)
  idle d ns e j = (subst (WorkAt m given Met d.view) (sym e) tt, j)

  -- a unit answered a walk of the command so
  abbrev Hears : ℕ → Type 0
  Hears b = given < b → Met

  above : (a b : Bool) (u n : ℕ) → (a && b && nat_lt u n) ≡ true → u < n
  above a b u n e = grind arith

  abbrev Lo : Work m → Type 0
  Lo w = ReadsForView m w.command → Past m given Met w.lo

  given_past : (v : Option (View m)) → AsGiven m given Met v → Past m given Met (upto_in m v)
  given_past v (inl e) = inl (omega (arith, e))
  given_past v (inr e) = inr e.1

  lo_past : (c : Client m) (x : CommandOf m) → K c → ReadsForView m x → Past m given Met (lo_for m c x)
  lo_past c (cmd.Ask o q) k r = given_past c.view k
  lo_past c cmd.End k r = given_past c.view k
  lo_past c (cmd.Checkpoint o) k r = given_past c.view k
  lo_past c cmd.Trim k r = given_past c.view k
  lo_past c x k r = absurd r

  took_fine : (c : Client m) (v : Option (View m)) (ns : List (NoteOf m)) → J c → Fine (moved m (pruned m (took_over m c v)) ns)
  took_fine c None ns j = (tt, j)
  took_fine c (Some v) ns j = (tt, j)

  abbrev TaskHears : Task m → Reply → Type 0
  TaskHears (Walking v os) x = (b : ℕ) → x ≡ IsGone b → Hears b
  TaskHears t x = Unit {0}

  -- Along a turn.

  abbrev WalkNext : Work m → Next Walk Members → Type 0
  WalkNext w to = ReadsForView m w.command → Past m given Met w.lo × NextPast (Past m given Met) (later_past m given Met) to

  abbrev Here : Client m → Work m → Place m → Type 0
  Here c w (Feeds t n rid x) = TaskAt m given Met w.command w.lo c.view t × TaskHears t x
  Here c w (Newer t n rid q) = TaskAt m given Met w.command w.lo c.view t
  Here c w (OnSync bs to) = K c × SyncNext to
  Here c w (OnWalk o os to) = K c × WalkNext w to × MetBy Hears to
  Here c w (OnAppend y bs to) = PurposeAt m given Met c.view y × AppendNext to
  Here c w (OnCopy x to) = ReadsForView m w.command → ⊥
  Here c w (OnReconf to) = ReadsForView m w.command → ⊥
  Here c w (Over o os x g) = K c × Lo w × ((b : ℕ) → g ≡ Some b → Hears b)
  Here c w (Walks' os) = K c × Lo w
  Here c w (Rescues' at) = K c
  Here c w p = Unit {0}

  abbrev Stands : Client m → Work m → Place m → Type 0
  Stands c w p = J c × Here c w p

  -- a trim above the view was told
  told : (c : Client m) (w : Work m) (b : ℕ) → gives_up m c w b ≡ true → K c → Hears b → Met
  told c w b e (inl same) f = let a = above (plays_kept m w.command) (is_some c.view) (upto m c) b e in f (omega (arith, a, same))
  told c w b e (inr y) f = y.1

  way : (c : Client m) (w : Work m) (p : Place m) (d : Client m) (v : Work m) (q : Place m) → Way m c w p d v q → Stands c w p → Stands d v q
  unfolding sync_start
  way c w _ _ _ _ (FeedsSync s n rid x) h = (h.0, (h.1.0.0, sync_quiet c.stand n x c.next s h.1.0.1))
  way c w _ _ _ _ (FeedsWalk k os n rid x) h = (
    h.0,
    (
      h.1.0.0,
      (λ r. let y = h.1.0.1 r in (y.0, feed_past (Past m given Met) (later_past m given Met) c.stand k n x c.next y.1)),
      feed_by Hears c.stand k n x c.next (λ i b has ends. h.1.1 b (cell_gone i n x c.next b ends)),
    ),
  )
  way c w _ _ _ _ (FeedsAppend a y n rid x) h = (h.0, (h.1.0.0, append_quiet c.stand n x c.next a h.1.0.1))
  way c w _ _ _ _ (FeedsCopy y n rid x) h = (h.0, h.1.0)
  way c w _ _ _ _ (FeedsReconf r n rid x) h = (h.0, h.1.0)
  way c w _ _ _ _ (NewerSync s n rid q) h = (h.0, (h.1.0, tt))
  way c w _ _ _ _ (NewerWalk k os n rid q) h = (h.0, (h.1.0, (λ r. let y = h.1.1 r in (y.0, goes_past (Past m given Met) (later_past m given Met) q c.next k y.1.0)), goes_by Hears q c.next k))
  way c w _ _ _ _ (NewerAppend a y n rid q) h = (h.0, (h.1.0, append_again_quiet q a c.next))
  way c w _ _ _ _ (NewerCopy x n rid q fine) h = h
  way c w _ _ _ _ (NewerReconf r n rid q) h = h
  way c w _ _ _ _ (Confirms bs t ls) h = (h.0, (h.1.0, lo_past c w.command h.1.0))
  way c w _ _ _ _ (Settles bs t ls s) h = (h.0, (h.1.0, lo_past c w.command h.1.0))
  way c w _ _ _ _ (EndsAtOnce o os x e) h = h
  way c w _ _ _ _ (WalkEnds o os x) h = (h.0, (h.1.0, (λ r. (h.1.1 r).0), h.1.2))
  way c w _ _ _ _ (MetNone o os x) h = (h.0, (h.1.0, h.1.1))
  way c w _ _ _ _ (MetLow o os x b e f) h = (h.0, (h.1.0, h.1.1))
  way c w _ _ _ _ (MetHigh o os x b e f k) h = let y = told c w b e h.1.0 (h.1.2 b refl) in (inr y, (inr (refl, y), λ r. inr y))
  way c w _ _ _ _ (StartsOver o os x b e f k) h = let y = told c w b e h.1.0 (h.1.2 b refl) in (inr y, (inr (refl, y), λ r. inr y))
  way c w _ _ _ _ x h = (h.0, tt)

  walked_way : (c : Client m) (w : Work m) (d : Client m) (q : Place m) → AllWalked m c w d q → Stands c w (Walks' []) → Stands d w q
  walked_way c w _ _ (HasPlayed k) h = (stays_on (upto m c) (own_play m c w).view.upto (played_high m c w) h.0, tt)
  walked_way c w _ _ (LooksBack at o q of) h = (h.0, tt)
  walked_way c w _ _ (IsRescue at of) h = (h.0, h.1.0)

  answers_fine : (c : Client m) (w : Work m) (p : Place m) (d : Client m) (n : ℕ) (what : WhatOf m) → IsAnswered m c w p d n what → J c → J d
  answers_fine c w _ _ _ _ (DecidedAt x bs p d no_end) j = j
  answers_fine c w _ _ _ _ x j = j

  ends_fine : (c : Client m) (w : Work m) (p : Place m) (x : Moved m) → End m c w p x → Stands c w p → Fine x
  unfolding appends append_start syncs sync_start
  ends_fine c w _ _ (GoesOn _ _ _ (WalkGoes o os x)) h = ((h.1.0, h.1.1), h.0)
  ends_fine c w _ _ (GoesOn _ _ _ (WalkBegins o os x e)) h =
      ((h.1.0, λ r. (h.1.1 r, subst (NextPast (Past m given Met) (later_past m given Met)) e (starts_past (Past m given Met) (later_past m given Met) c.stand o (lasts_of m w o) w.lo c.cells c.next (h.1.1 r)))), h.0)
  ends_fine c w _ _ (GoesOn _ _ _ (TrimsBegin es p came_to of came some)) h = (tt, h.0)
  ends_fine c w _ _ (GoesOn _ _ _ x) h = (h.1, h.0)
  ends_fine c w _ _ (LearnsNewer _ (WalkLearns o os x)) h = ((h.1.0, h.1.1), h.0)
  ends_fine c w _ _ (LearnsNewer _ x) h = (h.1, h.0)
  ends_fine c w _ _ (Syncs' _ _ _ (StaleHigh o os x b e f)) h = let y = told c w b e h.1.0 (h.1.2 b refl) in ((inr (refl, y), tt), inr y)
  ends_fine c w _ _ (Syncs' _ _ _ (Widens at o is)) h = ((h.1, tt), h.0)
  ends_fine c w _ _ (Syncs' _ _ _ x) h = ((h.1.0, tt), h.0)
  ends_fine c w _ _ (Appends' _ _ _ _ (MarkBegins es p came_to o n of came may)) h = ((tt, tt), h.0)
  ends_fine c w _ _ (Appends' _ _ _ _ x) h = ((tt, tt), h.0)
  ends_fine c w _ _ (Refuses _ _ _ (RecordForgotten y bs p b of)) h = (tt, h.0)
  ends_fine c w _ _ (Refuses _ _ _ x) h = (tt, h.0)
  ends_fine c w p _ (Answers d n what x) h = took_fine d d.view [] (answers_fine c w p d n what x h.0)
  ends_fine c w _ _ (Tells _ _ (IsMarked n o mark bs p d)) h = took_fine (owns m c p d) c.view [] h.0
  ends_fine c w _ _ (Tells _ _ x) h = (tt, h.0)

  -- what a unit answers to a walk in hand
  abbrev pub WalkHears : Client m → NodeId → ℕ → Reply → Type 0
  WalkHears c from rid x = (w : Work m) (t : Task m) → c.work ≡ Some w → w.hand ≡ Doing t → awaits (task_awaited m c.stand t) from rid ≡ true → (b : ℕ) → x ≡ IsGone b → Hears b

  hears_of : (t : Task m) (x : Reply) → ((b : ℕ) → x ≡ IsGone b → Hears b) → TaskHears t x
  hears_of (Walking v os) x f = f
  hears_of (Syncing s) x f = tt
  hears_of (Appending a y) x f = tt
  hears_of (Trimming t) x f = tt
  hears_of (Copying' y) x f = tt
  hears_of (Reconfiguring r) x f = tt

  pub feed_fine : (c : Client m) (from : NodeId) (rid : ℕ) (x : Reply) → WalkHears c from rid x → At' m given Met c → J c → Fine (step.feed m c c.work from rid x)
  feed_fine c from rid x g h j = delivered m Stands Fine ends_fine way (over_walks m Stands Fine ends_fine walked_way) c from rid x (h, j)
      (λ w t has doing a other. (j, (subst (λ (d : Hand m). TaskAt m given Met w.command w.lo c.view (task_in m d)) doing (subst (WorkAt m given Met c.view) has h), hears_of t x (g w t has doing a)))) (λ w q has is e. (j, subst (WorkAt m given Met c.view) has h))

  -- Commands.

  -- all but the hosting of an object
  abbrev pub IsHost : CommandOf m → Type 0
  IsHost (cmd.Host o) = Unit {0}
  IsHost x = ⊥

  module _ (c : Client m) (free : c.work ≡ None) (k : K c) (j : J c) where
    said_fine : (x : CommandOf m) (d : Client m) (ns : List (NoteOf m)) → IsSaid m c x d ns → (IsHost x → ⊥) → Fine (moved m d ns)
    said_fine _ d ns (HostsAlready o is) not_host = absurd (not_host tt)
    said_fine _ d ns (Hosts o is) not_host = absurd (not_host tt)
    said_fine _ d ns s not_host = idle d ns free j

    takes_fine : (x : CommandOf m) → (IsHost x → ⊥) → (y : Moved m) → Taken m c x y → Fine y
    unfolding appends append_start syncs sync_start
    takes_fine _ not_host _ (SaidAtOnce x d ns s) = said_fine x d ns s not_host
    takes_fine _ not_host _ (SyncsFirst x i) = ((k, tt), j)
    takes_fine _ not_host _ (AppendsRecord t _ has some (ForWrites e)) = ((tt, tt), j)
    takes_fine _ not_host _ (AppendsRecord t _ has some (ForJudged e)) = ((k, tt), j)
    takes_fine _ not_host _ (ReconfBegins x n r e) = ((λ i. i), j)
    takes_fine _ not_host _ (CopyBegins u r s) = ((λ i. i), j)

    pub accepts_fine : (x : CommandOf m) → (IsHost x → ⊥) → Fine (accepts m c x)
    accepts_fine x not_host = takes_fine x not_host (accepts m c x) (taken m c x)

  pub tick_fine : (c : Client m) (o : Option (Work m)) → c.work ≡ o → At' m given Met c → J c → At' m given Met (step.tick_by m c o).now × Stays (upto m (step.tick_by m c o).now)
  tick_fine c None e h j = (h, j)
  tick_fine c (Some w) e h j = (h, j)
