-- The request numbers that a client draws.
use Rattle.std.proofs.Common.{◌≡◌, ℕ, ◌+◌, ◌≤◌, List, [], ◌++◌, refl, sym, subst, Some, None, Option}
use Rattle.tg_base.specs.Layouts.{Layout}
use Rattle.tg_base.specs.declared.ids.Oid.{Oid}
use Rattle.tg_base.specs.declared.packet.Out.{Out}
use Rattle.tg_entry.specs.declared.entry.Entry.{Entry}
use Rattle.tg_kind.specs.Meaning.{Meaning}
use Rattle.tg_model.specs.Kinds.{WhatOf, NoteOf}
use Rattle.tg_protocol.specs.Appending.{append_start, append_work_asks}
use Rattle.tg_protocol.specs.Syncing.{sync_start, sync_work_asks}
use Rattle.tg_protocol.specs.Trimming.{trim_start}
use Rattle.tg_protocol.specs.Reconfiguring.{reconf_awaited}
use Rattle.tg_protocol.specs.Views.{View}
use Rattle.tg_protocol.specs.Clients.{Purpose, Task, Reconfiguring, Hand, Doing, Learning, Work, Client}
use Rattle.tg_protocol.specs.Answers.{Moved, replies, refuses, took_over, appends, syncs, trim_begun, with_view, walked}
use Rattle.tg_protocol.specs.ClientSteps.{task_asks, task_awaited, asks_latest}
use Rattle.tg_model.specs.declared.refusal.Refusal.{Refusal}
use Rattle.tg_law_steps.proofs.Places.{Place, Plays, Looks, Rescues}
use Rattle.tg_law_steps.proofs.Ways.{HasPlayed, LooksBack, IsRescue}
use Rattle.tg_law_steps.proofs.Ends.{End, GoesOn, LearnsNewer, Syncs, Appends, Refuses, Answers, Tells, TrimsBegin, SyncLearns, Widens, IsAppended, MarkBegins, IsRefused, ReconfOvertaken, ReconfNotWhole, CopyFault, IsAnswered, IsSaved, IsTold, IsMarked, IsInstalled}
use Rattle.tg_law_steps.proofs.Along.{Answered, AnsweredBy, walked_is}
use Rattle.tg_law_layouts.proofs.Moves.Draws.{Drawn, none, draws_one, later}

module _ (m : Meaning) where
  -- What a client may still take an answer to.

  abbrev pub task_kept : Task m → List Out
  task_kept (Reconfiguring r) = reconf_awaited r
  task_kept t = []

  abbrev pub hand_reserved : Layout → Hand m → List Out
  hand_reserved p (Doing t) = task_awaited m p t
  hand_reserved p (Learning ws t) = asks_latest m ws ++ task_kept t

  abbrev pub work_reserved : Layout → Option (Work m) → List Out
  work_reserved p None = []
  work_reserved p (Some w) = hand_reserved p w.hand

  abbrev pub reserved : Client m → List Out
  reserved c = work_reserved c.stand c.work

  pub record MovedDraws (old : List Out) (next : ℕ) (x : Moved m) : Type 0 where
    pub is : Drawn old next (x.besides ++ reserved x.now) x.now.next

  pub idle_draws : (old : List Out) (n : ℕ) (x : Moved m) → x.now.work ≡ None → x.besides ≡ [] → n ≤ x.now.next → MovedDraws old n x
  idle_draws old n x e f le = record { is = subst (λ (bs : List Out). Drawn old n (bs ++ reserved x.now) x.now.next) (sym f) (subst (λ (w : Option (Work m)). Drawn old n (work_reserved x.now.stand w) x.now.next) (sym e) (none old n x.now.next le)) }

  pub appends_draws : (old : List Out) (c : Client m) (w : Work m) (e : Entry) (p : Purpose m) (ns : List (NoteOf m)) (n : ℕ) → n ≤ c.next → MovedDraws old n (appends m c w e p ns)
  unfolding appends append_start append_work_asks task_asks
  appends_draws old c w e p ns n le = record { is = later old n c.next _ (c.next + 1) le (draws_one [] c.next _ _) }

  pub syncs_draws : (old : List Out) (c : Client m) (w : Work m) (os : List Oid) (n : ℕ) → n ≤ c.next → MovedDraws old n (syncs m c w os)
  unfolding syncs sync_start sync_work_asks task_asks
  syncs_draws old c w os n le = record { is = later old n c.next _ (c.next + 1) le (draws_one [] c.next _ _) }

  -- Every answer of a command that has played is an end, or the beginning of a machine.

  -- two clients that stand at one layout and have drawn the same numbers
  pub record Same (c d : Client m) : Type 0 where
    pub next : d.next ≡ c.next
    pub stand : d.stand ≡ c.stand
    pub num : d.num ≡ c.num
    pub layouts : d.layouts ≡ c.layouts

  -- taking over the directory changes none of it
  pub took_same : (c d : Client m) (v : Option (View m)) → Same c d → Same c (took_over m d v)
  took_same c d None s = s
  took_same c d (Some v) s = record { next = s.next; stand = s.stand; num = s.num; layouts = s.layouts }

  pub record Ways (P : Client m → Moved m → Type 0) : Type 0 where
    pub idle : (c : Client m) (x : Moved m) → x.now.work ≡ None → x.besides ≡ [] → Same c x.now → P c x
    pub append : (c d : Client m) (w : Work m) (e : Entry) (p : Purpose m) (ns : List (NoteOf m)) → Same c d → P c (appends m d w e p ns)
    pub sync : (c d : Client m) (w : Work m) (os : List Oid) → Same c d → P c (syncs m d w os)
    pub trim : (c : Client m) (w : Work m) (below : ℕ) → P c (trim_begun m c w below (trim_start c.stand below c.next))
    pub seen : (c : Client m) (v : View m) (x : Moved m) → P (with_view m c v) x → P c x

module _ (m : Meaning) (P : Client m → Moved m → Type 0) (ways : Ways m P) where
  -- where all streams are walked
  abbrev Walked' : Place m → Type 0
  Walked' (Plays es p) = Unit {0}
  Walked' (Looks at o q) = Unit {0}
  Walked' (Rescues at) = Unit {0}
  Walked' p = ⊥

  refused_case : (c : Client m) (w : Work m) (p : Place m) (d : Client m) (n : ℕ) (why : Refusal) → IsRefused m c w p d n why → Walked' p → P c (refuses m d n why)
  refused_case c w _ _ _ _ (ReconfOvertaken e p) h = absurd h
  refused_case c w _ _ _ _ (ReconfNotWhole u pos p) h = absurd h
  refused_case c w _ _ _ _ (CopyFault x n rid q why e) h = absurd h
  refused_case c w _ _ _ _ x h = ways.idle c _ refl refl (record { next = refl; stand = refl; num = refl; layouts = refl })

  answered_same : (c : Client m) (w : Work m) (p : Place m) (d : Client m) (n : ℕ) (what : WhatOf m) → IsAnswered m c w p d n what → Same m c d
  answered_same c w _ _ _ _ (IsSaved o upto bs p d) = record { next = refl; stand = refl; num = refl; layouts = refl }
  answered_same c w _ _ _ _ x = record { next = refl; stand = refl; num = refl; layouts = refl }

  told_case : (c : Client m) (w : Work m) (p : Place m) (d : Client m) (ns : List (NoteOf m)) → IsTold m c w p d ns → Walked' p → P c (replies m d ns)
  told_case c w _ _ _ (IsMarked n o mark bs p d) h = absurd h
  told_case c w _ _ _ (IsInstalled e p) h = absurd h
  told_case c w _ _ _ x h = ways.idle c _ refl refl (record { next = refl; stand = refl; num = refl; layouts = refl })

  appended_case : (c : Client m) (w : Work m) (p : Place m) (d : Client m) (e : Entry) (y : Purpose m) (ns : List (NoteOf m)) → IsAppended m c w p d e y ns → P c (appends m d w e y ns)
  appended_case c w _ _ _ _ _ (MarkBegins es p upto o n of came may) = ways.append c _ w _ _ _ (record { next = refl; stand = refl; num = refl; layouts = refl })
  appended_case c w _ _ _ _ _ x = ways.append c _ w _ _ _ (record { next = refl; stand = refl; num = refl; layouts = refl })

  ends_case : (c : Client m) (w : Work m) (p : Place m) (x : Moved m) → End m c w p x → Walked' p → P c x
  unfolding trim_start
  ends_case c w _ _ (GoesOn _ _ _ (TrimsBegin es p upto of came some)) h = ways.trim c w _
  ends_case c w _ _ (GoesOn _ _ _ x) h = absurd h
  ends_case c w _ _ (LearnsNewer _ (SyncLearns bs s)) h = absurd h
  ends_case c w _ _ (LearnsNewer _ x) h = absurd h
  ends_case c w _ _ (Syncs _ _ _ (Widens at o e)) h = ways.sync c c w _ (record { next = refl; stand = refl; num = refl; layouts = refl })
  ends_case c w _ _ (Syncs _ _ _ x) h = absurd h
  ends_case c w p _ (Appends d e y ns x) h = appended_case c w p d e y ns x
  ends_case c w p _ (Refuses d n why x) h = refused_case c w p d n why x h
  ends_case c w p _ (Answers d n what x) h = let s = took_same m c d d.view (answered_same c w p d n what x) in ways.idle c _ refl refl (record { next = s.next; stand = s.stand; num = s.num; layouts = s.layouts })
  ends_case c w p _ (Tells d ns x) h = told_case c w p d ns x h

  pub walked_case : (c : Client m) (w : Work m) → P c (walked m c w)
  walked_case c w = by _ (walked_is m c w)
    where
      by : (x : Moved m) → Answered m c w x → P c x
      by _ (AnsweredBy _ _ x (HasPlayed k) e) = ways.seen c _ x (ends_case _ w _ x e tt)
      by _ (AnsweredBy _ _ x (LooksBack at o q of) e) = ends_case c w _ x e tt
      by _ (AnsweredBy _ _ x (IsRescue at of) e) = ends_case c w _ x e tt
