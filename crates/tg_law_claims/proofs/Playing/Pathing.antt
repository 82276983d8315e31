-- Through each of a client's turns: its walks go down the paths of a tail that it was told, and its copies stay in their stripes.
use Rattle.std.proofs.Common.{◌≡◌, ℕ, ◌<◌, List, [], ◌∷◌, length, true, refl, sym, ◌∙◌, subst, Option, Some, None}
use Rattle.tg_base.specs.Layouts.{Layout}
use Rattle.tg_base.specs.declared.ids.NodeId.{NodeId}
use Rattle.tg_base.specs.declared.ids.Oid.{Oid}
use Rattle.tg_base.specs.declared.marks.StreamLink.{StreamLink}
use Rattle.tg_kind.specs.Meaning.{Meaning}
use Rattle.tg_model.specs.declared.command.Command.TheVariants as cmd
use Rattle.tg_model.specs.declared.refusal.Refusal.{Refusal}
use Rattle.tg_model.specs.Kinds.{CommandOf, NoteOf}
use Rattle.tg_proj.specs.Places.{range_at}
use Rattle.tg_protocol.specs.Words.{first_some}
use Rattle.tg_protocol.specs.Entries.{link_of, backs_of}
use Rattle.tg_protocol.specs.Requests.{awaits, Next, Goes, Learns, Ends}
use Rattle.tg_protocol.specs.Replies.{Reply, IsTail, IsMissing}
use Rattle.tg_protocol.specs.Appending.{append_start}
use Rattle.tg_protocol.specs.Syncing.{SyncWork, Checking, Settling, Probing, Sync, Confirmed, SyncTurn, sync_start, sync_feed}
use Rattle.tg_protocol.specs.Walking.{Walk}
use Rattle.tg_protocol.specs.Trimming.{Looking, copy_start}
use Rattle.tg_protocol.specs.Clients.{Task, Syncing, Walking, Appending, Trimming, Copying', Reconfiguring, Hand, Doing, Work, Client, copy_fault, busy, tx_open, tests, refusal}
use Rattle.tg_protocol.specs.Answers.{Moved, moved, appends, syncs}
use Rattle.tg_protocol.specs.ClientSteps as step
use Rattle.tg_protocol.specs.ClientSteps.{task_in, task_awaited, accepts, refused_or, lasts_of}
use Rattle.tg_law_claims.proofs.Playing.Quiet.{SyncQuiet, sync_quiet, AppendQuiet, AppendNext, append_quiet, append_again_quiet}
use Rattle.tg_law_claims.proofs.Playing.Quiet as quiet
use Rattle.tg_law_claims.proofs.Playing.Treading.{IsTreading, NextTreads, goes_treads, starts_treads, feed_treads}
use Rattle.tg_law_claims.proofs.Playing.Stripes.{IsOfStripe, IsCopying, CopyNext, copy_starts, copy_fed, stripe_there}
use Rattle.tg_law_steps.proofs.Machines.Syncs.{Fed, SettlesLast, ProbesLast, sync_fed}
use Rattle.tg_law_steps.proofs.Places.{Place, Feeds, Newer, OnSync, OnWalk, OnAppend, OnCopy, Over, Walks}
use Rattle.tg_law_steps.proofs.Ways.{Way, FeedsSync, FeedsWalk, FeedsAppend, FeedsCopy, NewerSync, NewerWalk, NewerAppend, NewerCopy, Confirms, Settles, EndsAtOnce, WalkEnds, MetNone, MetLow, MetHigh, StartsOver, AllWalked, HasPlayed}
use Rattle.tg_law_steps.proofs.Ends.{End, GoesOn, LearnsNewer, Syncs, SyncGoes, WalkGoes, WalkBegins, AppendGoes, CopyGoes, SyncLearns, WalkLearns, AppendLearns, CopyLearns}
use Rattle.tg_law_steps.proofs.Takes.{Taken, SaidAtOnce, SyncsFirst, CopyBegins, said_work, taken}
use Rattle.tg_law_steps.proofs.Along.{delivered, over_walks}

-- Syncs: what they end with was told.
module _ (Heard : List StreamLink → Type 0) where
  abbrev pub SyncTold : SyncWork → Type 0
  SyncTold (Checking r) = Unit {0}
  SyncTold (Settling a j) = Heard a.lasts
  SyncTold (Probing a j) = Heard a.lasts

  abbrev pub SyncTells : Next Sync Confirmed → Type 0
  SyncTells (Goes s) = SyncTold s.work
  SyncTells (Learns s) = SyncTold s.work
  SyncTells (Ends x) = Heard x.lasts

  sync_turn : (p : Layout) (n : ℕ) (x : Reply) (next : ℕ) → ((t : ℕ) (ls : List StreamLink) → x ≡ IsTail t ls → Heard ls) → (s : Sync) (t : SyncTurn) → Fed p n x next s t → SyncTold s.work → SyncTells t.to
  sync_turn p n x next tells _ _ (SettlesLast os r t ls is names more) ok = tells t ls is
  sync_turn p n x next tells _ _ (ProbesLast os r t ls is names less) ok = tells t ls is
  sync_turn p n x next tells _ _ came ok = ok

  pub sync_tells : (p : Layout) (s : Sync) → SyncTold s.work → (x : Reply) → ((t : ℕ) (ls : List StreamLink) → x ≡ IsTail t ls → Heard ls) → (n next : ℕ) → SyncTells (sync_feed p s s.work n x next).to
  sync_tells p s ok x tells n next = sync_turn p n x next tells s _ (sync_fed p n x next s) ok

-- A client was told these links, and was given these copies to make.
module _ (m : Meaning) (Heard : List StreamLink → Type 0) (Given : ℕ → ℕ → ℕ → Type 0) where
  abbrev pub TaskOn : Layout → List StreamLink → Task m → Type 0
  TaskOn p ls (Syncing s) = SyncTold Heard s.work × SyncQuiet s.work
  TaskOn p ls (Walking k os) = Heard ls × IsTreading (backs_of (link_of k.oid ls)) k
  TaskOn p ls (Appending a y) = AppendQuiet a.work
  TaskOn p ls (Trimming t) = Unit {0}
  TaskOn p ls (Copying' x) = IsCopying m Given p x
  TaskOn p ls (Reconfiguring r) = Unit {0}

  abbrev pub WorkOn : Layout → Option (Work m) → Type 0
  WorkOn p None = Unit {0}
  WorkOn p (Some w) = TaskOn p w.lasts (task_in m w.hand)

  abbrev pub IsOn : Client m → Type 0
  IsOn c = WorkOn c.stand c.work

  abbrev pub Fine : Moved m → Type 0
  Fine x = IsOn x.now

  idle : (d : Client m) (ns : List (NoteOf m)) → d.work ≡ None → Fine (moved m d ns)
  idle d ns e = subst (WorkOn d.stand) (sym e) tt

  -- a walk of a stream of the command
  walk_on : (p : Layout) (ls : List StreamLink) (o : Oid) (x : Walk) (os : List Oid) → Heard ls → IsTreading (backs_of (link_of o ls)) x × (x.oid ≡ o) → TaskOn p ls (Walking x os)
  walk_on p ls o x os h g = (h, subst (λ (z : Oid). IsTreading (backs_of (link_of z ls)) x) (sym g.1) g.0)

  -- Along a turn.

  -- what a sequencer tells, and what a unit tells a copy as missing
  abbrev pub Tells : Reply → Type 0
  Tells x = (t : ℕ) (ls : List StreamLink) → x ≡ IsTail t ls → Heard ls

  abbrev pub TaskMisses : Layout → Task m → Reply → Type 0
  TaskMisses p (Copying' y) x = (r pos : ℕ) → y.work ≡ Looking r → x ≡ IsMissing pos → IsOfStripe p y.range y.stripe pos
  TaskMisses p t x = Unit {0}

  -- what is told of what it looks for
  abbrev pub Misses : Client m → NodeId → ℕ → Reply → Type 0
  Misses c from rid x = (w : Work m) (t : Task m) → c.work ≡ Some w → w.hand ≡ Doing t → awaits (task_awaited m c.stand t) from rid ≡ true → TaskMisses c.stand t x

  abbrev Here : Client m → Work m → Place m → Type 0
  Here c w (Feeds t n rid x) = TaskOn c.stand w.lasts t × Tells x × TaskMisses c.stand t x
  Here c w (Newer t n rid q) = TaskOn c.stand w.lasts t
  Here c w (OnSync bs to) = SyncTells Heard to × quiet.SyncNext to
  Here c w (OnWalk o os to) = NextTreads (lasts_of m w o) o to × Heard w.lasts
  Here c w (OnAppend y bs to) = AppendNext to
  Here c w (OnCopy x to) = CopyNext m Given c.stand to
  Here c w (Over o os x g) = Heard w.lasts
  Here c w (Walks os) = Heard w.lasts
  Here c w p = Unit {0}

  way : (c : Client m) (w : Work m) (p : Place m) (d : Client m) (v : Work m) (q : Place m) → Way m c w p d v q → Here c w p → Here d v q
  unfolding sync_start
  way c w _ _ _ _ (FeedsSync s n rid x) h = (sync_tells Heard c.stand s h.0.0 x h.1 n c.next, sync_quiet c.stand n x c.next s h.0.1)
  way c w _ _ _ _ (FeedsWalk k os n rid x) h = (feed_treads (lasts_of m w k.oid) c.stand k n x c.next h.0.1, h.0.0)
  way c w _ _ _ _ (FeedsAppend a y n rid x) h = append_quiet c.stand n x c.next a h.0
  way c w _ _ _ _ (FeedsCopy y n rid x) h = copy_fed m Given c.stand n x c.next y h.0 h.2
  way c w _ _ _ _ (NewerSync s n rid q) h = (tt, tt)
  way c w _ _ _ _ (NewerWalk k os n rid q) h = (goes_treads (lasts_of m w k.oid) q c.next k h.1.came, h.0)
  way c w _ _ _ _ (NewerAppend a y n rid q) h = append_again_quiet q a c.next
  way c w _ _ _ _ (NewerCopy x n rid q fine) h = copy_starts m Given q x.unit x.range x.stripe c.next h.given (stripe_there m q x.unit x.range x.stripe fine)
  way c w _ _ _ _ (Confirms bs t ls) h = h.0
  way c w _ _ _ _ (Settles bs t ls s) h = h.0
  way c w _ _ _ _ (EndsAtOnce o os x e) h = h
  way c w _ _ _ _ (WalkEnds o os x) h = h.1
  way c w _ _ _ _ (MetNone o os x) h = h
  way c w _ _ _ _ (MetLow o os x b e f) h = h
  way c w _ _ _ _ (MetHigh o os x b e f k) h = h
  way c w _ _ _ _ (StartsOver o os x b e f k) h = h
  way c w _ _ _ _ x h = tt

  walked_way : (c : Client m) (w : Work m) (d : Client m) (q : Place m) → AllWalked m c w d q → Here c w (Walks []) → Here d w q
  walked_way c w _ _ (HasPlayed k) h = tt
  walked_way c w _ _ x h = tt

  ends_fine : (c : Client m) (w : Work m) (p : Place m) (x : Moved m) → End m c w p x → Here c w p → Fine x
  unfolding appends append_start syncs sync_start
  ends_fine c w _ _ (GoesOn _ _ _ (SyncGoes bs s)) h = h
  ends_fine c w _ _ (GoesOn _ _ _ (WalkGoes o os x)) h = walk_on c.stand w.lasts o x os h.1 h.0
  ends_fine c w _ _ (GoesOn _ _ _ (WalkBegins o os x e)) h = walk_on c.stand w.lasts o x os h (subst (NextTreads (lasts_of m w o) o) e (starts_treads (lasts_of m w o) c.stand o w.lo c.cells c.next))
  ends_fine c w _ _ (GoesOn _ _ _ (AppendGoes y bs a)) h = h
  ends_fine c w _ _ (GoesOn _ _ _ (CopyGoes x y)) h = h
  ends_fine c w _ _ (GoesOn _ _ _ x) h = tt
  ends_fine c w _ _ (LearnsNewer _ (SyncLearns bs s)) h = h
  ends_fine c w _ _ (LearnsNewer _ (WalkLearns o os x)) h = walk_on c.stand w.lasts o x os h.1 h.0
  ends_fine c w _ _ (LearnsNewer _ (AppendLearns y bs a)) h = h
  ends_fine c w _ _ (LearnsNewer _ (CopyLearns x y)) h = h
  ends_fine c w _ _ (LearnsNewer _ x) h = tt
  ends_fine c w _ _ (Syncs d v os x) h = (tt, tt)
  ends_fine c w _ _ x h = tt

  pub feed_fine : (c : Client m) (from : NodeId) (rid : ℕ) (x : Reply) → Tells x → Misses c from rid x → IsOn c → Fine (step.feed m c c.work from rid x)
  feed_fine c from rid x f g h = delivered m Here Fine ends_fine way (over_walks m Here Fine ends_fine walked_way) c from rid x h
      (λ w t has doing a other. (subst (λ (d : Hand m). TaskOn c.stand w.lasts (task_in m d)) doing (subst (WorkOn c.stand) has h), f, g w t has doing a)) (λ w q has is e. subst (WorkOn c.stand) has h)

  -- Commands.

  -- the copies that a command asks for
  abbrev pub GivesCopy : CommandOf m → Type 0
  GivesCopy (cmd.Copy u r s) = Given u r s
  GivesCopy x = Unit {0}

  module _ (c : Client m) (free : c.work ≡ None) where
    none_of : {X : Type 0} (x : Option X) (xs : List (Option X)) → first_some (x ∷ xs) ≡ None → (x ≡ None) × (first_some xs ≡ None)
    none_of None xs e = (refl, e)
    none_of (Some x) xs e = absurd cc

    stripe_of : (u r s : ℕ) → refusal m c (cmd.Copy u r s) ≡ None → s < length (range_at c.stand.ranges r).stripes
    unfolding refusal tests
    stripe_of u r s fine =
        let a = none_of (busy m c.work) _ fine in
        let b = none_of (tx_open m c) _ a.1 in
        let d = none_of (copy_fault m c.stand u r s) [] b.1 in
        stripe_there m c.stand u r s d.0

    takes_fine : (x : CommandOf m) → refusal m c x ≡ None → GivesCopy x → (y : Moved m) → Taken m c x y → Fine y
    unfolding appends append_start syncs sync_start copy_start
    takes_fine _ fine g _ (SaidAtOnce x d ns s) = idle d ns (said_work m c x d ns s ∙ free)
    takes_fine _ fine g _ (SyncsFirst x k) = (tt, tt)
    takes_fine _ fine g _ (CopyBegins u r s) = copy_starts m Given c.stand u r s c.next g (stripe_of u r s fine)
    takes_fine _ fine g _ x = tt

  pub command_fine : (c : Client m) (x : CommandOf m) (o : Option Refusal) → refusal m c x ≡ o → (o ≡ None → c.work ≡ None) → GivesCopy x → IsOn c → Fine (refused_or m c x o)
  command_fine c x None is free g h = takes_fine c (free refl) x is g (accepts m c x) (taken m c x)
  command_fine c x (Some why) is free g h = h

  pub tick_fine : (c : Client m) (o : Option (Work m)) → c.work ≡ o → IsOn c → IsOn (step.tick_by m c o).now
  tick_fine c None e h = h
  tick_fine c (Some w) e h = h
