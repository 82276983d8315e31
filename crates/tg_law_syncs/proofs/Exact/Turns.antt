-- What a client's walks have found stays true of a log through each of its turns, and its view has bases of objects that it
-- hosts alone.
use Rattle.std.proofs.Common.{◌≡◌, ℕ, List, [], true, refl, sym, ◌∙◌, subst, Option, Some, None}
use Rattle.std.specs.Prelude.{Contains}
use Rattle.tg_base.specs.Layouts.{Layout}
use Rattle.tg_base.specs.declared.cell.Cell.TheVariants.{Data}
use Rattle.tg_base.specs.declared.ids.NodeId.{NodeId}
use Rattle.tg_base.specs.declared.ids.Oid.{Oid}
use Rattle.tg_base.specs.declared.msg.Msg.{Msg}
use Rattle.tg_kind.specs.Meaning.{Meaning}
use Rattle.tg_model.specs.Kinds.{CommandOf, WhatOf, NoteOf}
use Rattle.tg_model.specs.declared.refusal.Refusal.{Refusal}
use Rattle.tg_base.specs.Orders.{with_oid}
use Rattle.tg_protocol.specs.Requests.{awaits}
use Rattle.tg_protocol.specs.Replies.{Reply, reply}
use Rattle.tg_protocol.specs.Appending.{append_start, append_again}
use Rattle.tg_protocol.specs.Syncing.{sync_start, sync_feed}
use Rattle.tg_protocol.specs.Trimming.{trim_start}
use Rattle.tg_protocol.specs.Views.{View}
use Rattle.tg_protocol.specs.Logs.{Log}
use Rattle.tg_protocol.specs.Clients.{Task, Syncing, Walking, Appending, Trimming, Copying', Reconfiguring, Hand, Doing, Work, Client, refusal}
use Rattle.tg_protocol.specs.Answers.{Moved, took_over, appends, syncs, walked}
use Rattle.tg_protocol.specs.ClientSteps.{owns, stands, task_in, task_awaited, task_feed, task_again, on_newer, refused_or, new_work, client_command, client_deliver, client_tick, tick_by, feed, after_turn, met}
use Rattle.tg_law_layouts.proofs.Moves.Turns.{not_busy}
use Rattle.tg_law_walks.specs.Walks.Streams.{IsByPosition, AreKnown, AreLinked}
use Rattle.tg_law_walks.specs.Walks.Walks.{JobEndsAs}
use Rattle.tg_law_walks.specs.Walks.Rounds.{round, IsRound, IsAtTask, IsAtWork, IsUnderWay, GoesOn as WalksOn, Comes, On, Over as RoundOver}
use Rattle.tg_law_walks.specs.Walks.Laws.{SyncEndsAs}
use Rattle.tg_law_walks.proofs.Walks.Cells.{more_known}
use Rattle.tg_law_walks.proofs.Walks.Commands.{syncs_come_on, walks_come_on, syncs_come_again, walks_come_again}
use Rattle.tg_law_syncs.proofs.Known.Landing.{LandsNext, AppendEndsAs, feed_lands, again_lands}
use Rattle.tg_law_syncs.proofs.Known.Knowing.{Knows, WorkKnows, TaskKnows}
use Rattle.tg_law_syncs.specs.Exact.Exact.{IsOfHosted}
use Rattle.tg_law_syncs.proofs.Exact.Bases.{more_oids, played_of}
use Rattle.tg_law_steps.proofs.Places.{Place, becomes, Newer, OnAppend, OnTrims, OnCopy, OnReconf, Walks, Plays, Looks, Rescues as RescuesAt}
use Rattle.tg_law_steps.proofs.Ways.{Way, append_fed, trims_fed, copy_fed, reconf_fed, reconf_newer, NewerCopy, AllWalked, HasPlayed, LooksBack, IsRescue}
use Rattle.tg_law_steps.proofs.Ends.{SyncGoes, WalkGoes, WalkBegins, SyncLearns, WalkLearns, JudgedAt, Widens, MarkBegins, IsRefused, RecordFull, IsAnswered, DecidedAt, IsTold, IsMarked, End, GoesOn, LearnsNewer, Syncs, Appends, Refuses, Answers, Tells}
use Rattle.tg_law_steps.proofs.Takes.{Hosts, Taken, SaidAtOnce, SyncsFirst, said_work}
use Rattle.tg_law_steps.proofs.Along.{handed, along, commanded, over_walks}

module _ (m : Meaning) (l : Log) where
  pub record Works (c : Client m) : Type 0 where
    pub hosted : IsOfHosted m c
    pub work : IsAtWork m l c c.work

module _ (m : Meaning) (l : Log) (byp : IsByPosition l) (linked : AreLinked l) where
  abbrev Fine : Moved m → Type 0
  Fine x = Works m l x.now

  -- An awaited answer.

  -- what it has to tell
  abbrev pub TaskHears : Client m → Work m → Task m → ℕ → Reply → Type 0
  TaskHears c w (Syncing s) n x = SyncEndsAs m l (round m c w c.cells) (sync_feed c.stand s s.work n x c.next).to
  TaskHears c w (Walking v os) n x = JobEndsAs l v.job n x c.next
  TaskHears c w (Appending a y) n x = AppendEndsAs l a.work n x c.next
  TaskHears c w t n x = Unit {0}

  -- what it has to tell of the work in hand
  abbrev pub Hears : Client m → NodeId → ℕ → Reply → Type 0
  Hears c from rid x = (w : Work m) (t : Task m) → c.work ≡ Some w → w.hand ≡ Doing t → awaits (task_awaited m c.stand t) from rid ≡ true → TaskHears c w t from.num x

  -- Along a turn, but of the walks, which come as rounds do.

  abbrev Rest : Client m → Work m → Place m → Type 0
  Rest c w (Newer (Copying' x) n rid q) = Unit {0}
  Rest c w (OnAppend y bs to) = AreKnown l c.cells × LandsNext l to
  Rest c w (OnTrims b to) = Unit {0}
  Rest c w (OnCopy x to) = Unit {0}
  Rest c w (OnReconf to) = Unit {0}
  Rest c w (Walks []) = IsRound m l (round m c w c.cells) []
  Rest c w (Plays es p) = Unit {0}
  Rest c w (Looks at o q) = Unit {0}
  Rest c w (RescuesAt at) = IsRound m l (round m c w c.cells) []
  Rest c w p = ⊥

  abbrev At : Client m → Work m → Place m → Type 0
  At c w p = IsOfHosted m c × Rest c w p

  way : (c : Client m) (w : Work m) (p : Place m) (d : Client m) (v : Work m) (q : Place m) → Way m c w p d v q → At c w p → At d v q
  way c w _ _ _ _ (NewerCopy x n rid q e) (h, r) = (h, tt)
  way c w _ _ _ _ x (h, r) = absurd r

  walked_way : (c : Client m) (w : Work m) (d : Client m) (q : Place m) → AllWalked m c w d q → At c w (Walks []) → At d w q
  walked_way c w _ _ (HasPlayed of) (h, r) = (played_of m c w r.bases, tt)
  walked_way c w _ _ (LooksBack at o q of) (h, r) = (h, tt)
  walked_way c w _ _ (IsRescue at of) (h, r) = (h, r)

  syncs_fine : (c : Client m) (w : Work m) (os : List Oid) → AreKnown l c.cells → ((o : Oid) → Contains c.hosted o → Contains os o) → IsOfHosted m c → Fine (syncs m c w os)
  unfolding syncs sync_start
  syncs_fine c w os k i h = record { hosted = h; work = record { known = k; found = refl; trims = refl; hosts = i; bases = h } }

  took_hosted : (c : Client m) (v : Option (View m)) → IsOfHosted m c → IsOfHosted m (took_over m c v)
  took_hosted c None h = h
  took_hosted c (Some v) h = h

  refused_hosted : (c : Client m) (w : Work m) (p : Place m) (d : Client m) (n : ℕ) (why : Refusal) → IsRefused m c w p d n why → IsOfHosted m c → IsOfHosted m d
  refused_hosted c w _ _ _ _ (RecordFull y bs b of) h = h
  refused_hosted c w _ _ _ _ x h = h

  answered_hosted : (c : Client m) (w : Work m) (p : Place m) (d : Client m) (n : ℕ) (what : WhatOf m) → IsAnswered m c w p d n what → IsOfHosted m c → IsOfHosted m d
  answered_hosted c w _ _ _ _ (DecidedAt x bs p d e) h = h
  answered_hosted c w _ _ _ _ x h = h

  told_hosted : (c : Client m) (w : Work m) (p : Place m) (d : Client m) (ns : List (NoteOf m)) → IsTold m c w p d ns → IsOfHosted m c → IsOfHosted m d
  told_hosted c w _ _ _ (IsMarked n o j bs p d) h = took_hosted (owns m c p d) c.view h
  told_hosted c w _ _ _ x h = h

  ends_fine : (c : Client m) (w : Work m) (p : Place m) (x : Moved m) → End m c w p x → At c w p → Fine x
  unfolding appends append_start
  ends_fine c w _ _ (GoesOn _ _ _ (SyncGoes bs s)) (h, r) = absurd r
  ends_fine c w _ _ (GoesOn _ _ _ (WalkGoes o os x)) (h, r) = absurd r
  ends_fine c w _ _ (GoesOn _ _ _ (WalkBegins o os x e)) (h, r) = absurd r
  ends_fine c w _ _ (GoesOn _ _ _ x) (h, r) = record { hosted = h; work = tt }
  ends_fine c w _ _ (LearnsNewer _ (SyncLearns bs s)) (h, r) = absurd r
  ends_fine c w _ _ (LearnsNewer _ (WalkLearns o os x)) (h, r) = absurd r
  ends_fine c w _ _ (LearnsNewer _ x) (h, r) = record { hosted = h; work = tt }
  ends_fine c w _ _ (Syncs _ _ _ (JudgedAt bs p d)) (h, r) = syncs_fine (owns m c p d) (record w { at = p }) c.hosted (more_known l c.cells p (Data d) r.0 r.1) (λ o i. i) h
  ends_fine c w _ _ (Syncs _ _ _ (Widens at o e)) (h, r) = syncs_fine c w (with_oid o w.oids) r.known (λ q j. more_oids o q w.oids (r.hosts q j)) h
  ends_fine c w _ _ (Syncs _ _ _ x) (h, r) = absurd r
  ends_fine c w _ _ (Appends _ _ _ _ (MarkBegins es p upto o n of came may)) (h, r) = record { hosted = h; work = tt }
  ends_fine c w _ _ (Appends _ _ _ _ x) (h, r) = record { hosted = h; work = tt }
  ends_fine c w p _ (Refuses d n why x) k = record { hosted = refused_hosted c w p d n why x k.0; work = tt }
  ends_fine c w p _ (Answers d n what x) k = record { hosted = took_hosted d d.view (answered_hosted c w p d n what x k.0); work = tt }
  ends_fine c w p _ (Tells d ns x) k = record { hosted = told_hosted c w p d ns x k.0; work = tt }

  over : (c : Client m) (w : Work m) → At c w (Walks []) → Fine (walked m c w)
  over = over_walks m At Fine ends_fine walked_way

  goes : (c : Client m) (w : Work m) (p : Place m) → At c w p → Fine (becomes m c w p)
  goes = along m At Fine ends_fine way over

  -- A step of a command's walks.

  task_hosted : (c : Client m) (w : Work m) (t : Task m) → IsUnderWay m l t → IsAtTask m l c w t → IsOfHosted m c
  task_hosted c w (Syncing s) g r = r.bases
  task_hosted c w (Walking k os) g r = r.round.bases
  task_hosted c w (Appending a y) g r = absurd g
  task_hosted c w (Trimming t) g r = absurd g
  task_hosted c w (Copying' y) g r = absurd g
  task_hosted c w (Reconfiguring y) g r = absurd g

  work_hosted : (c : Client m) (o : Option (Work m)) → WalksOn m l o → IsAtWork m l c o → IsOfHosted m c
  work_hosted c None g r = absurd g
  work_hosted c (Some w) g r = task_hosted c w (task_in m w.hand) g r

  comes_fine : (x : Moved m) → Comes m l x → Fine x
  comes_fine x (On y g r) = record { hosted = work_hosted y.now y.now.work g r; work = r }
  comes_fine x (RoundOver c w y is r) = subst Fine (sym is) (over c w (r.bases, r))

  newer_fine : (c : Client m) (w : Work m) (t : Task m) (n rid : ℕ) (q : Layout) → AreKnown l c.cells → IsOfHosted m c → IsAtTask m l c w t → Fine (on_newer m c w t n rid q)
  unfolding task_again
  newer_fine c w (Reconfiguring r) n rid q k h i = goes (after_turn m c (reconf_newer m c r n rid q)) w (OnReconf (reconf_newer m c r n rid q).to) (h, tt)
  newer_fine c w (Syncing s) n rid q k h i = comes_fine _ (syncs_come_again m l (stands m c q) w s i)
  newer_fine c w (Walking v os) n rid q k h i = comes_fine _ (walks_come_again m l (stands m c q) w v os byp linked (record { round = i.round; walk = i.walk; low = i.low }))
  newer_fine c w (Appending a y) n rid q k h i = goes _ _ (OnAppend y (append_again q a c.next).besides (append_again q a c.next).to) (h, (k, again_lands l q a c.next))
  newer_fine c w (Trimming t) n rid q k h i = goes (after_turn m (stands m c q) (trim_start q t.below c.next)) (met m w (trim_start q t.below c.next)) (OnTrims t.below (trim_start q t.below c.next).to) (h, tt)
  newer_fine c w (Copying' x) n rid q k h i = goes c w (Newer (Copying' x) n rid q) (h, tt)

  fed_fine : (c : Client m) (w : Work m) (t : Task m) (n rid : ℕ) (x : Reply) → AreKnown l c.cells → TaskKnows m l t → IsOfHosted m c → IsAtTask m l c w t → TaskHears c w t n x → Fine (task_feed m c w t n rid x)
  unfolding task_feed
  fed_fine c w (Syncing s) n rid x k f h i e = comes_fine _ (syncs_come_on m l c w s n rid x byp linked i e)
  fed_fine c w (Walking v os) n rid x k f h i e = comes_fine _ (walks_come_on m l c w v os n rid x byp linked i e)
  fed_fine c w (Appending a y) n rid x k f h i e = goes _ _ (OnAppend y (append_fed m c a n x).besides (append_fed m c a n x).to) (h, (k, feed_lands l c.stand a n x c.next f e))
  fed_fine c w (Trimming t) n rid x k f h i e = goes (after_turn m c (trims_fed m c t n x)) (met m w (trims_fed m c t n x)) (OnTrims t.below (trims_fed m c t n x).to) (h, tt)
  fed_fine c w (Copying' y) n rid x k f h i e = goes (after_turn m c (copy_fed m c y n x)) (met m w (copy_fed m c y n x)) (OnCopy y (copy_fed m c y n x).to) (h, tt)
  fed_fine c w (Reconfiguring r) n rid x k f h i e = goes (after_turn m c (reconf_fed m c r n rid x)) w (OnReconf (reconf_fed m c r n rid x).to) (h, tt)

  -- Commands, of which none is taken while one is in hand.

  none_view : (v : View m) → None ≡ Some v → ⊥
  none_view v e = cc

  takes_fine : (c : Client m) (x : CommandOf m) → c.work ≡ None → AreKnown l c.cells → IsOfHosted m c → (y : Moved m) → Taken m c x y → Fine y
  unfolding appends append_start
  takes_fine c _ free k h _ (SaidAtOnce _ _ _ (Hosts o is)) = record { hosted = λ v p b i e. absurd (none_view v i); work = subst (IsAtWork m l (record c { hosted = with_oid o c.hosted; view = None })) (sym free) tt }
  takes_fine c _ free k h _ (SaidAtOnce x d ns s) = record { hosted = h; work = subst (IsAtWork m l d) (sym (said_work m c x d ns s ∙ free)) tt }
  takes_fine c _ free k h _ (SyncsFirst x i) = syncs_fine c (new_work m x) c.hosted k (λ o i. i) h
  takes_fine c _ free k h _ x = record { hosted = h; work = tt }

  -- Turns.

  -- only counters have changed
  same_task : (c : Client m) (w : Work m) (n s : ℕ) (t : Task m) → IsAtTask m l c w t → IsAtTask m l (record c { calls = n; next = s }) w t
  same_task c w n s (Syncing x) i = i
  same_task c w n s (Walking k os) i = record { round = i.round; walk = i.walk; low = i.low }
  same_task c w n s t i = tt

  same_work : (c : Client m) (n s : ℕ) (o : Option (Work m)) → IsAtWork m l c o → IsAtWork m l (record c { calls = n; next = s }) o
  same_work c n s None i = tt
  same_work c n s (Some w) i = same_task c w n s (task_in m w.hand) i

  called : (c : Client m) (n s : ℕ) → Works m l c → Works m l (record c { calls = n; next = s })
  called c n s i = record { hosted = i.hosted; work = same_work c n s c.work i.work }

  pub command_fine : (c : Client m) (x : CommandOf m) → Knows m l c → Works m l c → Works m l (client_command m c x).now
  unfolding client_command
  command_fine c x k i = called (refused_or m c x (refusal m c x)).now _ _ (commanded m Fine c x (λ why e. i) (λ e. takes_fine c x (not_busy m c x e) k.cells i.hosted))

  pub tick_fine : (c : Client m) → Works m l c → Works m l (client_tick m c).now
  unfolding client_tick
  tick_fine c i = by c.work
    where
      by : (w : Option (Work m)) → Works m l (tick_by m c w).now
      by None = called c _ _ i
      by (Some w) = called c _ _ i

  pub deliver_fine : (c : Client m) (from : NodeId) (rid : ℕ) (y : Msg) → Knows m l c → Works m l c → Hears c from rid (reply y) → Works m l (client_deliver m c from rid y).now
  unfolding client_deliver
  deliver_fine c from rid y k i g = called (feed m c c.work from rid (reply y)).now _ _ (handed m Fine c from rid (reply y) i
      (λ w t has doing a other. fed_fine c w t from.num rid (reply y) k.cells (subst (λ (d : Hand m). TaskKnows m l (task_in m d)) doing (subst (WorkKnows m l) has k.work)) i.hosted (subst (λ (d : Hand m). IsAtTask m l c w (task_in m d)) doing (subst (IsAtWork m l c) has i.work)) (g w t has doing a))
      (λ w q has is a. newer_fine c w (task_in m w.hand) from.num rid q k.cells i.hosted (subst (IsAtWork m l c) has i.work)))
