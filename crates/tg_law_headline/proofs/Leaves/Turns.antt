-- What holds of a client's kept view, with the objects that it hosts, its own records and the cells that it knows, stays so through
-- each of its turns: K until its command has played, and J from then on, where plays make J of K.
use Rattle.std.proofs.Common.{◌≡◌, ℕ, ◌≤◌, List, [], true, sym, ◌∙◌, subst, Option, Some, None}
use Rattle.std.specs.Prelude.{is_some, Contains}
use Rattle.tg_base.specs.Layouts.{Layout}
use Rattle.tg_base.specs.declared.cell.Cell.{Cell}
use Rattle.tg_base.specs.declared.cell.Cell.TheVariants.{Data}
use Rattle.tg_base.specs.declared.ids.NodeId.{NodeId}
use Rattle.tg_base.specs.declared.ids.Oid.{Oid}
use Rattle.tg_base.specs.declared.msg.Msg.{Msg}
use Rattle.tg_kind.specs.Meaning.{Meaning}
use Rattle.tg_model.specs.Kinds.{CommandOf, WhatOf, NoteOf}
use Rattle.tg_model.specs.declared.refusal.Refusal.{Refusal}
use Rattle.tg_base.specs.Orders.{with_oid}
use Rattle.tg_protocol.specs.Words.{cell_at, with_cell, with_num}
use Rattle.tg_protocol.specs.Requests.{awaits, Next, Ends}
use Rattle.tg_protocol.specs.Replies.{Reply, reply}
use Rattle.tg_protocol.specs.Appending.{Append, AppendEnd, AppendTurn, At, append_start, append_feed, append_again}
use Rattle.tg_protocol.specs.Syncing.{sync_start}
use Rattle.tg_protocol.specs.Views.{Entries, View}
use Rattle.tg_protocol.specs.Clients.{Purpose, Writes, Judged, Decides, Rescues, Saves, Marks, Task, Syncing, Walking, Appending, Trimming, Copying', Reconfiguring, Hand, Doing, Work, Client, upto_in, upto}
use Rattle.tg_protocol.specs.Answers.{Moved, pruned, took_over, closed, appends, syncs}
use Rattle.tg_protocol.specs.ClientSteps.{plays_kept, start_walk, owns, knows_page, stands, task_in, task_awaited, client_command, client_deliver, client_tick, lasts_of, tick_by}
use Rattle.tg_law_layouts.proofs.Moves.Turns.{not_busy}
use Rattle.tg_law_replies.specs.Replies.Steps.{EachDelivery}
use Rattle.tg_law_walks.specs.Walks.Walks.{AreMore}
use Rattle.tg_law_walks.proofs.Walks.Cells.{more_some}
use Rattle.tg_law_syncs.proofs.Known.Ways.{played_view}
use Rattle.tg_law_replies.proofs.Replies.Ways.{EachAt, each_way, each_fed, each_newer}
use Rattle.tg_law_headline.proofs.Leaves.Ways.{Keeps, keeps_same, pruned_keeps, took_keeps}
use Rattle.tg_law_headline.proofs.Leaves.Walks.{WalkMore, starts_more, walks_more, feed_more}
use Rattle.tg_law_steps.proofs.Machines.Appends.{Anew, HasNone, append_anew}
use Rattle.tg_law_steps.proofs.Places.{Place, Feeds, Newer, OnSync, OnWalk, OnAppend, Over, Walks, Rescues as RescuesAt}
use Rattle.tg_law_steps.proofs.Ways.{Way, FeedsSync, FeedsWalk, FeedsTrims, FeedsCopy, FeedsReconf, NewerWalk, NewerAppend, Settles, EndsAtOnce, WalkEnds, MetHigh, StartsOver, AllWalked, HasPlayed, LooksBack, IsRescue}
use Rattle.tg_law_steps.proofs.Ends.{WalkGoes, WalkBegins, AppendGoes, WalkLearns, AppendLearns, JudgedAt, StaleHigh, RescueDecides, IsRefused, RescueWide, RescueForgotten, RescueStuck, RecordFull, RecordForgotten, OtherFull, OtherForgotten, IsAnswered, DecidedAt, DecidedLost, JudgedSo, JudgedLost, IsSaved, IsTold, IsCommitted, IsRescued, IsMarked, IsCopied, IsInstalled, PlaysOther, LooksFound, End, GoesOn, LearnsNewer, Syncs, Appends, Refuses, Answers, Tells}
use Rattle.tg_law_steps.proofs.Takes.{ForWrites, ForJudged, Hosts, Taken, SaidAtOnce, SyncsFirst, AppendsRecord, said_work}
use Rattle.tg_law_steps.proofs.Along.{delivered, commanded, over_walks}

-- the cells of these positions that were known are known still
abbrev pub AreLeft : List ℕ → List (ℕ × Cell) → List (ℕ × Cell) → Type 0
AreLeft own cells left = (p : ℕ) → Contains own p → is_some (cell_at cells p) ≡ true → is_some (cell_at left p) ≡ true

-- an append ends at or past a position
abbrev pub LandsPast : ℕ → Next Append AppendEnd → Type 0
LandsPast u (Ends (At p d)) = u ≤ p
LandsPast u to = Unit {0}

again_turn : (q : Layout) (next u : ℕ) (a : Append) (t : AppendTurn) → Anew q next a t → LandsPast u t.to
again_turn q next u _ _ (HasNone d w) = tt
again_turn q next u _ _ came = tt

-- an append that goes on in a newer layout doesn't end at once
again_past : (q : Layout) (a : Append) (next u : ℕ) → LandsPast u (append_again q a next).to
again_past q a next u = again_turn q next u a _ (append_anew q next a)

module _ (m : Meaning) (K : ℕ → List ℕ → List (ℕ × Cell) → List Oid → Option (View m) → Type 0) where
  -- it stays where the view is given up, where no known cell of the client's own records is, and where a record lands past the view
  pub record Lasts : Type 0 where
    pub given : (n : ℕ) (own : List ℕ) (cells : List (ℕ × Cell)) (os ps : List Oid) (v : Option (View m)) → K n own cells os v → K n own cells ps None
    pub left : (n : ℕ) (own : List ℕ) (cells more : List (ℕ × Cell)) (os : List Oid) (v : Option (View m)) → AreLeft own cells more → K n own cells os v → K n own more os v
    pub owns : (n : ℕ) (own : List ℕ) (cells : List (ℕ × Cell)) (os : List Oid) (v : Option (View m)) (p : ℕ) (d : Cell) → upto_in m v ≤ p → K n own cells os v → K n (with_num p own) (with_cell cells p d) os v

  -- of a client, by the cells that it has, or that its walk has
  abbrev pub With : List (ℕ × Cell) → Client m → Type 0
  With cells c = K c.num c.own cells c.hosted c.view

  abbrev pub Now : Client m → Type 0
  Now c = K c.num c.own c.cells c.hosted c.view

module _ (m : Meaning) (K J : ℕ → List ℕ → List (ℕ × Cell) → List Oid → Option (View m) → Type 0) where
  -- A command has played where an append is in hand that is its last, and where it does anything else but sync and walk.

  abbrev pub AtPurpose : ℕ → List ℕ → List (ℕ × Cell) → List Oid → Option (View m) → Purpose m → Type 0
  AtPurpose n own cells os v Judged = K n own cells os v
  AtPurpose n own cells os v y = J n own cells os v

  abbrev pub AtTask : ℕ → List ℕ → List (ℕ × Cell) → List Oid → Option (View m) → Task m → Type 0
  AtTask n own cells os v (Syncing s) = K n own cells os v
  AtTask n own cells os v (Walking k left) = K n own k.cells os v
  AtTask n own cells os v (Appending a y) = AtPurpose n own cells os v y
  AtTask n own cells os v t = J n own cells os v

  abbrev pub AtWork : ℕ → List ℕ → List (ℕ × Cell) → List Oid → Option (View m) → Option (Work m) → Type 0
  AtWork n own cells os v None = J n own cells os v
  AtWork n own cells os v (Some w) = AtTask n own cells os v (task_in m w.hand)

  abbrev pub AtPurposeNow : Client m → Purpose m → Type 0
  AtPurposeNow c y = AtPurpose c.num c.own c.cells c.hosted c.view y

  abbrev pub AtTaskNow : Client m → Task m → Type 0
  AtTaskNow c t = AtTask c.num c.own c.cells c.hosted c.view t

  abbrev pub Holds : Client m → Type 0
  Holds c = AtWork c.num c.own c.cells c.hosted c.view c.work

  -- K holds where it has no work
  abbrev pub Rested : Client m → Type 0
  Rested c = c.work ≡ None → Now m K c

  -- a play makes J of K
  abbrev pub PlayHolds : Client m → Work m → Type 0
  PlayHolds c w = plays_kept m w.command ≡ true → K c.num c.own c.cells c.hosted c.view → J c.num c.own c.cells c.hosted (Some (played_view m c w))

-- an append of the client's that ends by an answer lands past its view
abbrev pub Lands : (m : Meaning) → Client m → NodeId → ℕ → Reply → Type 0
Lands m c from rid x = (w : Work m) (a : Append) (y : Purpose m) → c.work ≡ Some w → w.hand ≡ Doing (Appending a y) → awaits (task_awaited m c.stand (Appending a y)) from rid ≡ true →
    LandsPast (upto m c) (append_feed c.stand a a.work from.num x c.next).to

module _ (m : Meaning) (objects : List Oid) (es : Entries) (K J : ℕ → List ℕ → List (ℕ × Cell) → List Oid → Option (View m) → Type 0) (keep : Lasts m K) (last : Lasts m J)
    (weaker : (n : ℕ) (own : List ℕ) (cells : List (ℕ × Cell)) (os : List Oid) (v : Option (View m)) → K n own cells os v → J n own cells os v) where
  abbrev Fine : Moved m → Type 0
  Fine x = Holds m K J x.now

  weak : (c : Client m) → Now m K c → Now m J c
  weak c k = weaker c.num c.own c.cells c.hosted c.view k

  weak_at : (c : Client m) (y : Purpose m) → AtPurposeNow m K J c y → Now m J c
  weak_at c Judged k = weak c k
  weak_at c Writes k = k
  weak_at c (Decides x) k = k
  weak_at c (Rescues x) k = k
  weak_at c (Saves o u) k = k
  weak_at c (Marks n o u) k = k

  more : (cells known : List (ℕ × Cell)) (c : Client m) → AreMore cells known → With m K cells c → With m K known c
  more cells known c g k = keep.left c.num c.own cells known c.hosted c.view (λ p i. g p) k

  -- of an append
  abbrev TaskLands : Client m → Task m → ℕ → Reply → Type 0
  TaskLands c (Appending a y) n x = LandsPast (upto m c) (append_feed c.stand a a.work n x c.next).to
  TaskLands c t n x = Unit {0}

  -- Along a turn.

  abbrev Rest : Client m → Work m → Place m → Type 0
  Rest c w (Feeds t n rid x) = AtTaskNow m K J c t × TaskLands c t n x
  Rest c w (Newer t n rid q) = AtTaskNow m K J c t
  Rest c w (OnSync bs to) = Now m K c
  Rest c w (OnWalk o os to) = (cells : List (ℕ × Cell)) × WalkMore cells to × With m K cells c
  Rest c w (Over o os x g) = Now m K c
  Rest c w (Walks os) = Now m K c
  Rest c w (OnAppend y bs to) = AtPurposeNow m K J c y × LandsPast (upto m c) to
  Rest c w (RescuesAt at) = Now m K c
  Rest c w p = Now m J c

  abbrev At' : Client m → Work m → Place m → Type 0
  At' c w p = Rest c w p × EachAt m objects es (PlayHolds m K J) c w p

  begins_more : (c : Client m) (w : Work m) (o : Oid) → WalkMore c.cells (start_walk m c w o).to
  begins_more c w o = starts_more c.stand o (lasts_of m w o) w.lo c.cells c.next

  rest_way : (c : Client m) (w : Work m) (p : Place m) (d : Client m) (v : Work m) (q : Place m) → Way m c w p d v q → Rest c w p → Rest d v q
  rest_way c w _ _ _ _ (FeedsSync s n rid x) r = r.0
  rest_way c w _ _ _ _ (FeedsWalk y os n rid x) r = (y.cells, feed_more c.stand y n x c.next, r.0)
  rest_way c w _ _ _ _ (FeedsTrims t n rid x) r = r.0
  rest_way c w _ _ _ _ (FeedsCopy y n rid x) r = r.0
  rest_way c w _ _ _ _ (FeedsReconf y n rid x) r = r.0
  rest_way c w _ _ _ _ (NewerWalk y os n rid q) r = (y.cells, walks_more q c.next y, r)
  rest_way c w _ _ _ _ (NewerAppend a y n rid q) r = (r, again_past q a c.next (upto m c))
  rest_way c w _ _ _ _ (Settles bs t ls s) r = more c.cells (with_cell c.cells s.0 s.1) c (more_some c.cells s.0 s.1) r
  rest_way c w _ _ _ _ (EndsAtOnce o os x e) r = more c.cells x.cells c (subst (WalkMore c.cells) e (begins_more c w o)) r
  rest_way c w _ _ _ _ (WalkEnds o os x) r = more r.0 x.cells c r.1 r.2
  rest_way c w _ _ _ _ (MetHigh o os x b e f z) r = keep.given c.num c.own c.cells c.hosted c.hosted c.view r
  rest_way c w _ _ _ _ (StartsOver o os x b e f z) r = keep.given c.num c.own c.cells c.hosted c.hosted c.view r
  rest_way c w _ _ _ _ x r = r

  way : (c : Client m) (w : Work m) (p : Place m) (d : Client m) (v : Work m) (q : Place m) → Way m c w p d v q → At' c w p → At' d v q
  way c w p d v q x k = (rest_way c w p d v q x k.0, each_way m objects es (PlayHolds m K J) c w p d v q x k.1)

  walked_way : (c : Client m) (w : Work m) (d : Client m) (q : Place m) → AllWalked m c w d q → At' c w (Walks []) → At' d w q
  walked_way c w _ _ (HasPlayed of) (k, f) = (f of k, tt)
  walked_way c w _ _ (LooksBack at o q of) (k, f) = (weak c k, tt)
  walked_way c w _ _ (IsRescue at of) (k, f) = (k, tt)

  -- What a turn comes to.

  kept : (c d : Client m) → Keeps m c d → Now m J c → Now m J d
  kept c d s k =
      subst (λ (n : ℕ). J n d.own d.cells d.hosted d.view) (sym s.num)
      (subst (λ (own : List ℕ). J c.num own d.cells d.hosted d.view) (sym s.own)
      (subst (λ (v : Option (View m)). J c.num c.own d.cells d.hosted v) (sym s.view)
      (subst (λ (os : List Oid). J c.num c.own d.cells os c.view) (sym s.hosted) (last.left c.num c.own c.cells d.cells c.hosted c.view s.pages k))))

  idle : (d : Client m) → d.work ≡ None → Now m J d → Holds m K J d
  idle d e k = subst (λ (o : Option (Work m)). AtWork m K J d.num d.own d.cells d.hosted d.view o) (sym e) k

  pruned_fine : (c d : Client m) → Keeps m c d → Now m J c → Holds m K J (pruned m d)
  pruned_fine c d s k = kept c (pruned m d) (pruned_keeps m c d s) k

  replied : (c : Client m) → Now m J c → Holds m K J (pruned m c)
  replied c k = pruned_fine c c (keeps_same m c) k

  answered_fine : (c : Client m) → Now m J c → Holds m K J (pruned m (took_over m c c.view))
  answered_fine c k = pruned_fine c (took_over m c c.view) (took_keeps m c c c.view (keeps_same m c)) k

  page : (c : Client m) (p : ℕ) (d : List ℕ) → Now m J c → Now m J (knows_page m c p d)
  page c p d k = last.left c.num c.own c.cells (with_cell c.cells p (Data d)) c.hosted c.view (λ q i g. more_some c.cells p (Data d) q g) k

  owned : (c : Client m) (p : ℕ) (d : List ℕ) → upto m c ≤ p → Now m J c → Now m J (owns m c p d)
  owned c p d le k = last.owns c.num c.own c.cells c.hosted c.view p (Data d) le k

  refused : (c : Client m) (w : Work m) (p : Place m) (d : Client m) (n : ℕ) (why : Refusal) → IsRefused m c w p d n why → Rest c w p → Now m J d
  refused c w _ _ _ _ (RecordFull y bs b of) r = weak_at c y r.0
  refused c w _ _ _ _ (RecordForgotten y bs p b of) r = weak_at c y r.0
  refused c w _ _ _ _ (OtherFull y bs n b of) r = weak_at c y r.0
  refused c w _ _ _ _ (OtherForgotten y bs n p b of) r = weak_at c y r.0
  refused c w _ _ _ _ (RescueWide at e) r = weak c r
  refused c w _ _ _ _ (RescueForgotten at b e f) r = weak c r
  refused c w _ _ _ _ (RescueStuck at q x e) r = weak c r
  refused c w _ _ _ _ x r = r

  answered : (c : Client m) (w : Work m) (p : Place m) (d : Client m) (n : ℕ) (what : WhatOf m) → IsAnswered m c w p d n what → Rest c w p → Now m J d
  answered c w _ _ _ _ (DecidedAt x bs p d other) r = page c p d r.0
  answered c w _ _ _ _ (DecidedLost x bs e lost other) r = r.0
  answered c w _ _ _ _ (JudgedSo x bs p d of) r = page c p d r.0
  answered c w _ _ _ _ (JudgedLost x bs e lost of) r = r.0
  answered c w _ _ _ _ (IsSaved o u bs p d) r = page c p d r.0
  answered c w _ _ _ _ x r = r

  told : (c : Client m) (w : Work m) (p : Place m) (d : Client m) (ns : List (NoteOf m)) → IsTold m c w p d ns → Rest c w p → Holds m K J (pruned m d)
  told c w _ _ _ (IsCommitted bs p d) r = replied (closed m (owns m c p d)) (owned c p d r.1 r.0)
  told c w _ _ _ (IsRescued x bs p d) r = replied (knows_page m c p d) (page c p d r.0)
  told c w _ _ _ (IsMarked n o j bs p d) r = answered_fine (owns m c p d) (owned c p d r.1 r.0)
  told c w _ _ _ (IsCopied x e) r = replied c r
  told c w _ _ _ (IsInstalled e p) r = replied (stands m c p) r
  told c w _ _ _ (PlaysOther es p x) r = replied c r
  told c w _ _ _ (LooksFound at o q p upto s a b e f) r = replied c r
  told c w _ _ _ x r = replied c (weak c r)

  ends_fine : (c : Client m) (w : Work m) (p : Place m) (x : Moved m) → End m c w p x → At' c w p → Fine x
  unfolding appends append_start syncs sync_start
  ends_fine c w _ _ (GoesOn _ _ _ (WalkGoes o os x)) (r, e) = more r.0 x.cells c r.1 r.2
  ends_fine c w _ _ (GoesOn _ _ _ (WalkBegins o os x i)) (r, e) = more c.cells x.cells c (subst (WalkMore c.cells) i (begins_more c w o)) r
  ends_fine c w _ _ (GoesOn _ _ _ (AppendGoes y bs a)) (r, e) = r.0
  ends_fine c w _ _ (GoesOn _ _ _ x) (r, e) = r
  ends_fine c w _ _ (LearnsNewer _ (WalkLearns o os x)) (r, e) = more r.0 x.cells c r.1 r.2
  ends_fine c w _ _ (LearnsNewer _ (AppendLearns y bs a)) (r, e) = r.0
  ends_fine c w _ _ (LearnsNewer _ x) (r, e) = r
  ends_fine c w _ _ (Syncs _ _ _ (JudgedAt bs p d)) (r, e) = keep.owns c.num c.own c.cells c.hosted c.view p (Data d) r.1 r.0
  ends_fine c w _ _ (Syncs _ _ _ (StaleHigh o os x b i j)) (r, e) = keep.given c.num c.own c.cells c.hosted c.hosted c.view r
  ends_fine c w _ _ (Syncs _ _ _ x) (r, e) = r
  ends_fine c w _ _ (Appends _ _ _ _ (RescueDecides at so en is i)) (r, e) = weak c r
  ends_fine c w _ _ (Appends _ _ _ _ x) (r, e) = r
  ends_fine c w p _ (Refuses d n why x) k = replied d (refused c w p d n why x k.0)
  ends_fine c w p _ (Answers d n what x) k = answered_fine d (answered c w p d n what x k.0)
  ends_fine c w p _ (Tells d ns x) k = told c w p d ns x k.0

  takes_fine : (c : Client m) (x : CommandOf m) → c.work ≡ None → Now m K c → (y : Moved m) → Taken m c x y → Fine y
  unfolding appends append_start syncs sync_start
  takes_fine c _ free k _ (SaidAtOnce _ _ _ (Hosts o is)) = idle (record c { hosted = with_oid o c.hosted; view = None }) free (last.given c.num c.own c.cells c.hosted (with_oid o c.hosted) c.view (weak c k))
  takes_fine c _ free k _ (SaidAtOnce x d ns s) = idle d (said_work m c x d ns s ∙ free) (weak c k)
  takes_fine c _ free k _ (SyncsFirst x i) = k
  takes_fine c _ free k _ (AppendsRecord t _ is some (ForWrites e)) = weak c k
  takes_fine c _ free k _ (AppendsRecord t _ is some (ForJudged e)) = k
  takes_fine c _ free k _ x = weak c k

  -- Turns.

  pub command_fine : (c : Client m) (x : CommandOf m) → Rested m K J c → Holds m K J c → Holds m K J (client_command m c x).now
  unfolding client_command
  command_fine c x r k = commanded m Fine c x (λ why e. k) (λ e. takes_fine c x (not_busy m c x e) (r (not_busy m c x e)))

  lands_of : (c : Client m) (w : Work m) (t : Task m) (from : NodeId) (rid : ℕ) (x : Reply) → c.work ≡ Some w → w.hand ≡ Doing t → Lands m c from rid x → awaits (task_awaited m c.stand t) from rid ≡ true → TaskLands c t from.num x
  lands_of c w (Appending a y) from rid x e h g b = g w a y e h b
  lands_of c w (Syncing s) from rid x e h g b = tt
  lands_of c w (Walking v os) from rid x e h g b = tt
  lands_of c w (Trimming t) from rid x e h g b = tt
  lands_of c w (Copying' y) from rid x e h g b = tt
  lands_of c w (Reconfiguring r) from rid x e h g b = tt

  -- what is in hand
  in_hand : (c : Client m) (w : Work m) → c.work ≡ Some w → Holds m K J c → AtTaskNow m K J c (task_in m w.hand)
  in_hand c w e k = subst (λ (o : Option (Work m)). AtWork m K J c.num c.own c.cells c.hosted c.view o) e k

  pub deliver_fine : (c : Client m) (from : NodeId) (rid : ℕ) (y : Msg) → Lands m c from rid (reply y) → Holds m K J c → EachDelivery m objects es (PlayHolds m K J) c c.work from rid (reply y) → Holds m K J (client_deliver m c from rid y).now
  unfolding client_deliver
  deliver_fine c from rid y g k f = delivered m At' Fine ends_fine way (over_walks m At' Fine ends_fine walked_way) c from rid (reply y) k
      (λ w t has doing a other. ((subst (λ (d : Hand m). AtTaskNow m K J c (task_in m d)) doing (in_hand c w has k), lands_of c w t from rid (reply y) has doing g a), each_fed m objects es (PlayHolds m K J) c from rid (reply y) f w t has doing a other))
      (λ w q has is a. (in_hand c w has k, each_newer m objects es (PlayHolds m K J) c from rid (reply y) f w q has is a))

  pub tick_fine : (c : Client m) → Holds m K J c → Holds m K J (client_tick m c).now
  unfolding client_tick
  tick_fine c k = by c.work
    where
      by : (w : Option (Work m)) → Holds m K J (tick_by m c w).now
      by None = k
      by (Some w) = k
