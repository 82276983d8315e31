-- A client that doesn't reconfigure proposes nothing.
use Rattle.std.proofs.Common.{◌≡◌, ◌⊎◌, ℕ, List, [], ◌∷◌, ◌++◌, true, refl, sym, ap, ◌∙◌, subst, inl, inr, Some, None, Option}
use Rattle.tg_base.specs.Layouts.{Layout}
use Rattle.tg_base.specs.declared.ids.Ballot.{Ballot}
use Rattle.tg_base.specs.declared.ids.NodeId.{NodeId}
use Rattle.tg_base.specs.declared.ids.Oid.{Oid}
use Rattle.tg_base.specs.declared.msg.Msg.{Msg}
use Rattle.tg_base.specs.declared.msg.Msg.TheVariants as msg
use Rattle.tg_base.specs.declared.packet.Out.{Out}
use Rattle.tg_kind.specs.Meaning.{Meaning}
use Rattle.tg_model.specs.Kinds.{CommandOf, WhatOf, NoteOf}
use Rattle.tg_protocol.specs.Words.{unit_id, layout_id}
use Rattle.tg_protocol.specs.Requests.{awaits, out, Waits, asked_of}
use Rattle.tg_protocol.specs.Cells.{Place, CellWork, Puts, Gets, Fills, Copies, Probes, CellJob, work_asks}
use Rattle.tg_protocol.specs.Appending.{AppendWork, Asking, Putting, Judging, Append, append_start, append_work_asks}
use Rattle.tg_protocol.specs.Syncing.{SyncWork, Checking, Settling, Probing, Sync, sync_work_asks, sync_start}
use Rattle.tg_protocol.specs.Walking.{job_asks}
use Rattle.tg_protocol.specs.Trimming.{CopyWork, Sealing, Reading, Storing, Trimming, Looking, Copying, copy_work_asks}
use Rattle.tg_protocol.specs.Clients.{Purpose, Task, Syncing, Walking, Appending, Trimming, Copying', Reconfiguring, Hand, Doing, Learning, Work, Client}
use Rattle.tg_protocol.specs.Answers.{Moved, moved, replies, took_over, appends, syncs}
use Rattle.tg_model.specs.declared.trace.What.TheVariants as told
use Rattle.tg_protocol.specs.ClientSteps as step
use Rattle.tg_protocol.specs.ClientSteps.{task_feed, on_newer, accepts, on_reconf, task_awaited, task_asks, hand_asks, goes_on, learns_for, owns, stands, task_in}
use Rattle.tg_law_layouts.proofs.Moves.Members.{Has, has_either, has_map}
use Rattle.tg_law_layouts.proofs.Moves.Clients.{Same}
use Rattle.tg_law_layouts.proofs.Moves.Besides.{OnlyLearns, none_learns, sync_besides, append_besides, append_again_besides, sync_again_besides}
use Rattle.tg_law_steps.proofs.Places.{Place as Place', Feeds, Newer, OnSync, OnAppend, OnReconf, Walks, becomes}
use Rattle.tg_law_steps.proofs.Ways.{Way, FeedsSync, FeedsAppend, FeedsReconf, NewerSync, NewerAppend, NewerReconf, reconf_fed, reconf_newer, AllWalked, IsRescue}
use Rattle.tg_law_steps.proofs.Ends.{End, GoesOn, LearnsNewer, Syncs, Appends, Refuses, Answers, Tells, IsGoing, SyncGoes, AppendGoes, ReconfGoes, IsLearning, ReconfLearns, IsSynced, JudgedAt, IsAppended, MarkBegins, IsRefused, ReconfOvertaken, ReconfNotWhole, IsAnswered, IsSaved, IsTold, IsMarked, IsInstalled}
use Rattle.tg_law_steps.proofs.Along.{along, over_walks, handed}
use Rattle.tg_law_steps.proofs.Takes.{IsSaid, Begins, Taken, SaidAtOnce, ReconfBegins, taken, said_work}
use Rattle.std.specs.Prelude.{◌&&◌, nat_lt}
use Rattle.tg_base.specs.Orders.{node_eq}
use Rattle.tg_protocol.specs.Replies.{Reply, IsLatest}
use Rattle.tg_model.specs.declared.command.Command.TheVariants as cmd
use Rattle.tg_entry.specs.declared.entry.Entry.{Entry}
use Rattle.tg_model.specs.declared.refusal.Refusal.{Refusal}
use Rattle.tg_protocol.specs.Views.{View}

-- What is sent proposes nothing.

abbrev pub NoAccepts : List Out → Type 0
NoAccepts os = (o : Out) (e : ℕ) (b : Ballot) (q : Layout) → Has os o → o.msg ≡ msg.Accept e b q → ⊥

abbrev pub IsPlain : Msg → Type 0
IsPlain x = (e : ℕ) (b : Ballot) (q : Layout) → x ≡ msg.Accept e b q → ⊥

pub none_plain : NoAccepts []
none_plain o e b q h is = h

pub one_plain : (to : NodeId) (r : ℕ) (x : Msg) → IsPlain x → NoAccepts (out to r x ∷ [])
one_plain to r x f o e b q (inl i) is = f e b q (sym (ap (λ (y : Out). y.msg) i) ∙ is)
one_plain to r x f o e b q (inr h) is = h

pub all_plain : (name : ℕ → NodeId) (x : Msg) (ws : Waits) → IsPlain x → NoAccepts (asked_of name x ws)
all_plain name x ws f o e b q h is = let i = has_map (λ (w : ℕ × ℕ). out (name w.0) w.1 x) ws o h in f e b q (sym (ap (λ (y : Out). y.msg) i.is) ∙ is)

pub both_plain : (xs ys : List Out) → NoAccepts xs → NoAccepts ys → NoAccepts (xs ++ ys)
both_plain xs ys f g o e b q h is = by (has_either xs ys o h)
  where
    by : Has xs o ⊎ Has ys o → ⊥
    by (inl x) = f o e b q x is
    by (inr x) = g o e b q x is

cells_plain : (a : Place) (w : CellWork) → NoAccepts (work_asks a w)
unfolding work_asks
cells_plain a (Puts r d i) = one_plain _ r _ (λ e b q h. cc)
cells_plain a (Gets r) = one_plain _ r _ (λ e b q h. cc)
cells_plain a (Fills r) = one_plain _ r _ (λ e b q h. cc)
cells_plain a (Copies r c i) = one_plain _ r _ (λ e b q h. cc)
cells_plain a (Probes ws) = all_plain unit_id _ ws (λ e b q h. cc)

pub job_plain : (j : Option CellJob) → NoAccepts (job_asks j)
job_plain None = none_plain
job_plain (Some j) = cells_plain j.place j.work

append_plain : (p : Layout) (a : Append) (w : AppendWork) → NoAccepts (append_work_asks p a w)
unfolding append_work_asks
append_plain p a (Asking r) = one_plain _ r _ (λ e b q h. cc)
append_plain p a (Putting j) = cells_plain j.place j.work
append_plain p a (Judging j) = cells_plain j.place j.work

sync_plain : (p : Layout) (s : Sync) (w : SyncWork) → NoAccepts (sync_work_asks p s w)
unfolding sync_work_asks
sync_plain p s (Checking r) = one_plain _ r _ (λ e b q h. cc)
sync_plain p s (Settling a j) = cells_plain j.place j.work
sync_plain p s (Probing a j) = cells_plain j.place j.work

copy_plain : (p : Layout) (c : Copying) (w : CopyWork) → NoAccepts (copy_work_asks p c w)
unfolding copy_work_asks
copy_plain p c (Sealing r) = one_plain _ r _ (λ e b q h. cc)
copy_plain p c (Reading j) = cells_plain j.place j.work
copy_plain p c (Storing r pos x) = one_plain _ r _ (λ e b q h. cc)
copy_plain p c (Trimming r b) = one_plain _ r _ (λ e b q h. cc)
copy_plain p c (Looking r) = one_plain _ r _ (λ e b q h. cc)

-- what tells a layout to a sequencer proposes nothing
pub learns_quiet : (p : Layout) (os : List Out) → OnlyLearns p os → NoAccepts os
learns_quiet p os f o e b q h is = no (sym (f o h) ∙ is)
  where
    no : msg.Learn p ≡ msg.Accept e b q → ⊥
    no x = cc

module _ (m : Meaning) where
  -- no reconfiguration is in hand

  abbrev pub TaskCalm : Task m → Type 0
  TaskCalm (Reconfiguring r) = ⊥
  TaskCalm t = Unit {0}

  abbrev pub WorkCalm : Option (Work m) → Type 0
  WorkCalm None = Unit {0}
  WorkCalm (Some w) = TaskCalm (task_in m w.hand)

  pub task_plain : (p : Layout) (t : Task m) → TaskCalm t → NoAccepts (task_asks m p t)
  unfolding task_asks
  task_plain p (Syncing s) c = sync_plain p s s.work
  task_plain p (Walking w os) c = job_plain w.job
  task_plain p (Appending a x) c = append_plain p a a.work
  task_plain p (Trimming t) c = all_plain unit_id _ t.waits (λ e b q h. cc)
  task_plain p (Copying' x) c = copy_plain p x x.work
  task_plain p (Reconfiguring r) c = absurd c

  hand_plain : (p : Layout) (h : Hand m) → TaskCalm (task_in m h) → NoAccepts (hand_asks m p h)
  hand_plain p (Doing t) c = task_plain p t c
  hand_plain p (Learning ws t) c = all_plain layout_id _ ws (λ e b q h. cc)

  -- a step of a client that doesn't reconfigure then
  pub record Plain (c : Client m) (x : Moved m) : Type 0 where
    pub stand : x.now.stand ≡ c.stand
    pub num : x.now.num ≡ c.num
    pub layouts : x.now.layouts ≡ c.layouts
    pub calm : WorkCalm x.now.work
    pub quiet : OnlyLearns x.now.stand x.besides

  idle_plain : (c : Client m) (x : Moved m) → x.now.work ≡ None → x.besides ≡ [] → Same m c x.now → Plain c x
  idle_plain c x e f s = record { stand = s.stand; num = s.num; layouts = s.layouts; calm = subst WorkCalm (sym e) tt; quiet = subst (OnlyLearns x.now.stand) (sym f) (none_learns x.now.stand) }

  -- Along a turn, as the client `b` stands.
  module _ (b : Client m) where
    abbrev Stand : Client m → Place' m → Layout
    Stand c (Newer t n rid q) = q
    Stand c p = c.stand

    abbrev Calm : Client m → Place' m → Type 0
    Calm c (Feeds t n rid x) = TaskCalm t
    Calm c (Newer t n rid q) = TaskCalm t
    Calm c (OnSync bs to) = OnlyLearns c.stand bs
    Calm c (OnAppend y bs to) = OnlyLearns c.stand bs
    Calm c (OnReconf to) = ⊥
    Calm c p = Unit {0}

    abbrev Alike : Layout → Client m → Type 0
    Alike p c = (p ≡ b.stand) × (c.num ≡ b.num) × (c.layouts ≡ b.layouts)

    abbrev pub CalmAt : Client m → Work m → Place' m → Type 0
    CalmAt c w p = Alike (Stand c p) c × Calm c p

    pub calm_way : (c : Client m) (w : Work m) (p : Place' m) (d : Client m) (v : Work m) (q : Place' m) → Way m c w p d v q → CalmAt c w p → CalmAt d v q
    calm_way c w _ _ _ _ (FeedsSync s n rid x) h = (h.0, sync_besides c.stand s s.work n x c.next)
    calm_way c w _ _ _ _ (FeedsAppend a y n rid x) h = (h.0, append_besides c.stand a a.token a.work n x c.next refl)
    calm_way c w _ _ _ _ (FeedsReconf r n rid x) h = absurd h.1
    calm_way c w _ _ _ _ (NewerSync s n rid q) h = (h.0, sync_again_besides q s c.next)
    calm_way c w _ _ _ _ (NewerAppend a y n rid q) h = (h.0, append_again_besides q a c.next)
    calm_way c w _ _ _ _ (NewerReconf r n rid q) h = absurd h.1
    calm_way c w _ _ _ _ x h = (h.0, tt)

    pub calm_walked : (c : Client m) (w : Work m) (d : Client m) (q : Place' m) → AllWalked m c w d q → CalmAt c w (Walks []) → CalmAt d w q
    calm_walked c w _ _ (IsRescue at of) h = h
    calm_walked c w _ _ x h = h

    going_plain : (c : Client m) (w : Work m) (p : Place' m) (d : Client m) (t : Task m) (bs : List Out) → IsGoing m c w p d t bs → CalmAt c w p → Plain b (goes_on m d w t bs)
    going_plain c w _ _ _ _ (SyncGoes bs s) h = record { stand = h.0.0; num = h.0.1; layouts = h.0.2; calm = tt; quiet = h.1 }
    going_plain c w _ _ _ _ (AppendGoes y bs a) h = record { stand = h.0.0; num = h.0.1; layouts = h.0.2; calm = tt; quiet = h.1 }
    going_plain c w _ _ _ _ (ReconfGoes r) h = absurd h.1
    going_plain c w _ _ _ _ x h = record { stand = h.0.0; num = h.0.1; layouts = h.0.2; calm = tt; quiet = none_learns _ }

    learning_plain : (c : Client m) (w : Work m) (p : Place' m) (t : Task m) → IsLearning m c w p t → CalmAt c w p → Plain b (learns_for m c w t)
    learning_plain c w _ _ (ReconfLearns r) h = absurd h.1
    learning_plain c w _ _ x h = record { stand = h.0.0; num = h.0.1; layouts = h.0.2; calm = tt; quiet = none_learns _ }

    synced_alike : (c : Client m) (w : Work m) (p : Place' m) (d : Client m) (v : Work m) (os : List Oid) → IsSynced m c w p d v os → CalmAt c w p → Alike d.stand d
    synced_alike c w _ _ _ _ (JudgedAt bs p d) h = h.0
    synced_alike c w _ _ _ _ x h = h.0

    appended_alike : (c : Client m) (w : Work m) (p : Place' m) (d : Client m) (e : Entry) (y : Purpose m) (ns : List (NoteOf m)) → IsAppended m c w p d e y ns → CalmAt c w p → Alike d.stand d
    appended_alike c w _ _ _ _ _ (MarkBegins es p upto o n of came may) h = h.0
    appended_alike c w _ _ _ _ _ x h = h.0

    refused_alike : (c : Client m) (w : Work m) (p : Place' m) (d : Client m) (n : ℕ) (why : Refusal) → IsRefused m c w p d n why → CalmAt c w p → Alike d.stand d
    refused_alike c w _ _ _ _ (ReconfOvertaken e p) h = absurd h.1
    refused_alike c w _ _ _ _ (ReconfNotWhole u pos p) h = absurd h.1
    refused_alike c w _ _ _ _ x h = h.0

    answered_alike : (c : Client m) (w : Work m) (p : Place' m) (d : Client m) (n : ℕ) (what : WhatOf m) → IsAnswered m c w p d n what → CalmAt c w p → Alike d.stand d
    answered_alike c w _ _ _ _ (IsSaved o upto bs p d) h = h.0
    answered_alike c w _ _ _ _ x h = h.0

    took_alike : (d : Client m) (v : Option (View m)) → Alike d.stand d → Alike (took_over m d v).stand (took_over m d v)
    took_alike d None h = h
    took_alike d (Some v) h = h

    told_alike : (c : Client m) (w : Work m) (p : Place' m) (d : Client m) (ns : List (NoteOf m)) → IsTold m c w p d ns → CalmAt c w p → Alike d.stand d
    told_alike c w _ _ _ (IsMarked n o mark bs p d) h = took_alike (owns m c p d) c.view h.0
    told_alike c w _ _ _ (IsInstalled e p) h = absurd h.1
    told_alike c w _ _ _ x h = h.0

    replied : (d : Client m) (ns : List (NoteOf m)) → Alike d.stand d → Plain b (replies m d ns)
    replied d ns h = record { stand = h.0; num = h.1; layouts = h.2; calm = tt; quiet = none_learns _ }

    pub calm_ends : (c : Client m) (w : Work m) (p : Place' m) (x : Moved m) → End m c w p x → CalmAt c w p → Plain b x
    unfolding appends append_start syncs sync_start
    calm_ends c w p _ (GoesOn d t bs x) h = going_plain c w p d t bs x h
    calm_ends c w p _ (LearnsNewer t x) h = learning_plain c w p t x h
    calm_ends c w p _ (Syncs d v os x) h = let a = synced_alike c w p d v os x h in record { stand = a.0; num = a.1; layouts = a.2; calm = tt; quiet = none_learns _ }
    calm_ends c w p _ (Appends d e y ns x) h = let a = appended_alike c w p d e y ns x h in record { stand = a.0; num = a.1; layouts = a.2; calm = tt; quiet = none_learns _ }
    calm_ends c w p _ (Refuses d n why x) h = replied d _ (refused_alike c w p d n why x h)
    calm_ends c w p _ (Answers d n what x) h = replied (took_over m d d.view) _ (took_alike d d.view (answered_alike c w p d n what x h))
    calm_ends c w p _ (Tells d ns x) h = replied d ns (told_alike c w p d ns x h)

    pub calm_turn : (c : Client m) (w : Work m) (p : Place' m) → CalmAt c w p → Plain b (becomes m c w p)
    calm_turn = along m CalmAt (Plain b) calm_ends calm_way (over_walks m CalmAt (Plain b) calm_ends calm_walked)

  -- All commands but a reconfiguration.

  abbrev pub NoReconf : CommandOf m → Type 0
  NoReconf (cmd.Reconf x) = ⊥
  NoReconf x = Unit {0}

  said_same : (c : Client m) (x : CommandOf m) (d : Client m) (ns : List (NoteOf m)) → IsSaid m c x d ns → Same m c d
  said_same c _ _ _ Begins = record { next = refl; stand = refl; num = refl; layouts = refl }
  said_same c _ _ _ s = record { next = refl; stand = refl; num = refl; layouts = refl }

  taken_plain : (c : Client m) (x : CommandOf m) → NoReconf x → c.work ≡ None → (y : Moved m) → Taken m c x y → Plain c y
  unfolding appends append_start syncs sync_start
  taken_plain c _ k free _ (SaidAtOnce x d ns s) = idle_plain c (moved m d ns) (said_work m c x d ns s ∙ free) refl (said_same c x d ns s)
  taken_plain c _ k free _ (ReconfBegins x n r e) = absurd k
  taken_plain c _ k free _ x = record { stand = refl; num = refl; layouts = refl; calm = tt; quiet = none_learns _ }

  pub accepts_plain : (c : Client m) (x : CommandOf m) → NoReconf x → c.work ≡ None → Plain c (accepts m c x)
  accepts_plain c x k free = taken_plain c x k free (accepts m c x) (taken m c x)

  -- A delivery: by what comes of it for a reconfiguration, and of the plain turn of any other task.
  module _ (Good : Moved m → Type 0) where
    abbrev pub Fed : Client m → Work m → Task m → ℕ → ℕ → Reply → Type 0
    Fed c w (Reconfiguring r) n rid x = Good (on_reconf m c w (reconf_fed m c r n rid x))
    Fed c w t n rid x = (y : Moved m) → Plain c y → Good y

    abbrev pub Heard : Client m → Work m → Task m → ℕ → ℕ → Layout → Type 0
    Heard c w (Reconfiguring r) n rid q = Good (on_reconf m c w (reconf_newer m c r n rid q))
    Heard c w t n rid q = (y : Moved m) → Plain (stands m c q) y → Good y

    fed_plain : (c : Client m) (w : Work m) (t : Task m) (n rid : ℕ) (x : Reply) → Fed c w t n rid x → Good (task_feed m c w t n rid x)
    unfolding task_feed
    fed_plain c w (Reconfiguring r) n rid x h = h
    fed_plain c w t n rid x h = h _ (calm_turn c c w (Feeds t n rid x) ((refl, refl, refl), tt))

    heard_plain : (c : Client m) (w : Work m) (t : Task m) (n rid : ℕ) (q : Layout) → Heard c w t n rid q → Good (on_newer m c w t n rid q)
    heard_plain c w (Reconfiguring r) n rid q h = h
    heard_plain c w t n rid q h = h _ (calm_turn (stands m c q) c w (Newer t n rid q) ((refl, refl, refl), tt))

    pub delivered_plain : (c : Client m) (from : NodeId) (rid : ℕ) (x : Reply) → Good (moved m c [])
        → ((w : Work m) (t : Task m) → c.work ≡ Some w → w.hand ≡ Doing t → awaits (task_awaited m c.stand t) from rid ≡ true → Fed c w t from.num rid x)
        → ((w : Work m) (q : Layout) → c.work ≡ Some w → x ≡ IsLatest q → (node_eq from (layout_id from.num) && nat_lt c.stand.epoch q.epoch) ≡ true → Heard c w (task_in m w.hand) from.num rid q)
        → Good (step.feed m c c.work from rid x)
    delivered_plain c from rid x still fed heard = handed m Good c from rid x still (λ w t has doing a other. fed_plain c w t from.num rid x (fed w t has doing a))
        (λ w q has is e. heard_plain c w (task_in m w.hand) from.num rid q (heard w q has is e))
