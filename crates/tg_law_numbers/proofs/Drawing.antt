-- How many request numbers a client draws in a step.
use Rattle.std.proofs.Common.{◌≡◌, ◌∙◌, ℕ, ◌+◌, ◌-◌, ◌*◌, ◌≤◌, List, [], length, refl, ap, subst, arith, Some, None, Option}
use Rattle.tg_base.specs.Layouts.{Layout}
use Rattle.tg_base.specs.Changes.{Changed}
use Rattle.tg_base.specs.declared.cell.Cell.{Cell}
use Rattle.tg_base.specs.declared.ids.NodeId.{NodeId}
use Rattle.tg_base.specs.declared.ids.Oid.{Oid}
use Rattle.tg_base.specs.declared.msg.Msg.{Msg}
use Rattle.tg_base.specs.declared.msg.Msg.TheVariants as msg
use Rattle.tg_base.specs.declared.packet.Out.{Out}
use Rattle.tg_entry.specs.declared.entry.Entry.{Entry}
use Rattle.tg_kind.specs.Meaning.{Meaning}
use Rattle.tg_model.specs.Kinds.{CommandOf, WhatOf, NoteOf}
use Rattle.tg_model.specs.declared.refusal.Refusal.{Refusal}
use Rattle.tg_protocol.specs.Layouts.{chain_of, units_of, next_units}
use Rattle.tg_protocol.specs.Replies.{Reply, IsLatest, reply}
use Rattle.tg_protocol.specs.Cells.{CellJob, CellTurn, cell_feed}
use Rattle.tg_protocol.specs.Appending.{Append, AppendTurn, append_start, append_feed, append_again}
use Rattle.tg_protocol.specs.Syncing.{Sync, SyncTurn, sync_start, sync_feed}
use Rattle.tg_protocol.specs.Walking.{Walk, WalkTurn, trail, with_job, walk_from, walk_start, walk_feed, read_at}
use Rattle.tg_protocol.specs.Trimming.{Trims, TrimTurn, trim_start, trim_feed, Copying, CopyTurn, copy_start, copy_feed}
use Rattle.tg_protocol.specs.Reconfiguring.{Reconf, ReconfTurn, SealingSpare, reconf_start, reconf_feed, reconf_latest}
use Rattle.tg_protocol.specs.Views.{View}
use Rattle.tg_protocol.specs.Clients.{Purpose, Task, Reconfiguring, Hand, Work, Client}
use Rattle.tg_protocol.specs.Answers.{Moved, took_over, appends, syncs}
use Rattle.tg_protocol.specs.ClientSteps.{task_in, owns, lasts_of, client_command, client_deliver, client_tick}
use Rattle.tg_law_steps.proofs.Machines.Cells as cells
use Rattle.tg_law_steps.proofs.Machines.Appends as fed_appends
use Rattle.tg_law_steps.proofs.Machines.Syncs as fed_syncs
use Rattle.tg_law_steps.proofs.Machines.Walks as fed_walks
use Rattle.tg_law_steps.proofs.Machines.Copies as fed_copies
use Rattle.tg_law_steps.proofs.Machines.Trims as fed_trims
use Rattle.tg_law_steps.proofs.Machines.Reconfs as fed_reconfs
use Rattle.tg_law_steps.proofs.Places.{Place, Feeds, Newer}
use Rattle.tg_law_steps.proofs.Ways.{Way, FeedsSync, FeedsWalk, FeedsAppend, FeedsTrims, FeedsCopy, FeedsReconf, NewerSync, NewerWalk, NewerAppend, NewerTrims, NewerCopy, NewerReconf, AllWalked, IsRescue}
use Rattle.tg_law_steps.proofs.Ends.{End, GoesOn, LearnsNewer, Syncs, Appends, Refuses, Answers, Tells, IsGoing, WalkBegins, TrimsBegin, IsLearning, SyncLearns, IsSynced, JudgedAt, IsAppended, MarkBegins, IsRefused, CopyFault, IsAnswered, IsSaved, IsTold, IsMarked}
use Rattle.tg_law_steps.proofs.Takes.{IsSaid, Begins, Taken, SaidAtOnce, SyncsFirst, AppendsRecord, ReconfBegins, CopyBegins}
use Rattle.tg_law_steps.proofs.Along.{delivered, over_walks, commanded, ticked}
use Rattle.tg_law_numbers.specs.Counts.{HasFew, AsksFew, IsFew, GivesFew, TellsFew, DrawsFew, DrawFew}

-- What each machine draws in a turn.

cell_turn : (u : ℕ) (x : Reply) (next : ℕ) (j : CellJob) (t : CellTurn) → cells.Fed u x next j t → t.next ≤ next + 1
cell_turn u x next _ _ (cells.PutsOn a r d i is f) = omega arith
cell_turn u x next _ _ (cells.ReadsNone a r is) = omega arith
cell_turn u x next _ _ (cells.CopiesOn a w c i k f) = omega arith
cell_turn u x next _ _ y = omega arith

cell_draws : (j : CellJob) (u : ℕ) (x : Reply) (next : ℕ) → (cell_feed j u x next).next ≤ next + 1
cell_draws j u x next = cell_turn u x next j _ (cells.cell_fed u x next j)

append_turn : (p : Layout) (n : ℕ) (x : Reply) (next : ℕ) (a : Append) (t : AppendTurn) → fed_appends.Fed p n x next a t → t.next ≤ next + 2
append_turn p n x next _ _ (fed_appends.PutGoes d t j k e) = let c = cell_draws j n x next in omega (arith, c)
append_turn p n x next _ _ (fed_appends.PutDone d t j y e) = let c = cell_draws j n x next in omega (arith, c)
append_turn p n x next _ _ (fed_appends.PutLost d t j y e) = let c = cell_draws j n x next in omega (arith, c)
append_turn p n x next _ _ (fed_appends.PutGone d t j b e) = let c = cell_draws j n x next in omega (arith, c)
append_turn p n x next _ _ (fed_appends.JudgeGoes d t j k e) = let c = cell_draws j n x next in omega (arith, c)
append_turn p n x next _ _ (fed_appends.JudgeOwn d t j y e f) = let c = cell_draws j n x next in omega (arith, c)
append_turn p n x next _ _ (fed_appends.JudgeOther d t j y e f) = let c = cell_draws j n x next in omega (arith, c)
append_turn p n x next _ _ (fed_appends.JudgeGone d t j b e) = let c = cell_draws j n x next in omega (arith, c)
append_turn p n x next _ _ (fed_appends.JobLearns d t w j k of e) = let c = cell_draws j n x next in omega (arith, c)
append_turn p n x next _ _ (fed_appends.JobFenced d t w j u e of is) = let c = cell_draws j n x next in omega (arith, c)
append_turn p n x next _ _ (fed_appends.JobPasses d t w j e of is) = let c = cell_draws j n x next in omega (arith, c)
append_turn p n x next _ _ y = omega arith

append_draws : (p : Layout) (a : Append) (n : ℕ) (x : Reply) (next : ℕ) → (append_feed p a a.work n x next).next ≤ next + 2
append_draws p a n x next = append_turn p n x next a _ (fed_appends.append_fed p n x next a)

anew_draws : (p : Layout) (next : ℕ) (a : Append) (t : AppendTurn) → fed_appends.Anew p next a t → t.next ≤ next + 1
anew_draws p next _ _ (fed_appends.HasNone d w) = omega arith
anew_draws p next _ _ (fed_appends.IsDead d t w e) = omega arith
anew_draws p next _ _ (fed_appends.Settles d t w e) = omega arith

append_again_draws : (p : Layout) (a : Append) (next : ℕ) → (append_again p a next).next ≤ next + 1
append_again_draws p a next = anew_draws p next a _ (fed_appends.append_anew p next a)

sync_turn : (k : ℕ) (p : Layout) → ((pos : ℕ) → length (chain_of p pos) ≤ k) → (n : ℕ) (x : Reply) (next : ℕ) (s : Sync) (t : SyncTurn) → fed_syncs.Fed p n x next s t → t.next ≤ next + (k + 1)
sync_turn k p few n x next _ _ (fed_syncs.ProbesLast os r t ls is named e) = let f = few (t - 1) in omega (arith, f)
sync_turn k p few n x next _ _ (fed_syncs.SettleGoes os a j i e) = let c = cell_draws j n x next in omega (arith, c)
sync_turn k p few n x next _ _ (fed_syncs.SettleDone os a j y e) = let c = cell_draws j n x next in omega (arith, c)
sync_turn k p few n x next _ _ (fed_syncs.SettleGone os a j b e) = let c = cell_draws j n x next in let f = few (a.tail - 1) in omega (arith, c, f)
sync_turn k p few n x next _ _ (fed_syncs.ProbeGoes os a j i e) = let c = cell_draws j n x next in omega (arith, c)
sync_turn k p few n x next _ _ (fed_syncs.ProbeSeen os a j e) = let c = cell_draws j n x next in omega (arith, c)
sync_turn k p few n x next _ _ (fed_syncs.JobLearns os w j i of e) = let c = cell_draws j n x next in omega (arith, c)
sync_turn k p few n x next _ _ (fed_syncs.JobFenced os w j u e of is) = let c = cell_draws j n x next in omega (arith, c)
sync_turn k p few n x next _ _ (fed_syncs.JobPasses os w j e of is) = let c = cell_draws j n x next in omega (arith, c)
sync_turn k p few n x next _ _ y = omega arith

sync_draws : (k : ℕ) (p : Layout) → ((pos : ℕ) → length (chain_of p pos) ≤ k) → (s : Sync) (n : ℕ) (x : Reply) (next : ℕ) → (sync_feed p s s.work n x next).next ≤ next + (k + 1)
sync_draws k p few s n x next = sync_turn k p few n x next s _ (fed_syncs.sync_fed p n x next s)

sync_start_draws : (os : List Oid) (next : ℕ) → (sync_start os next).next ≤ next + 1
unfolding sync_start
sync_start_draws os next = omega arith

walks_draws : (p : Layout) (next : ℕ) (w : Walk) → (walk_from p next w).next ≤ next + 1
walks_draws p next w = fed_walks.goes_on p next (λ (v : Walk). Unit {0}) (λ (t : WalkTurn). t.next ≤ next + 1) (λ v q c is e h. tt) (λ v h. omega arith) (λ v q is e h. omega arith) _ w tt

walk_turn : (p : Layout) (n : ℕ) (x : Reply) (next : ℕ) (w : Walk) (t : WalkTurn) → fed_walks.Fed p n x next w t → t.next ≤ next + 2
walk_turn p n x next _ _ (fed_walks.Nothing w) = omega arith
walk_turn p n x next _ _ (fed_walks.ReadDone w j y e) =
    let c = cell_draws j n x next in
    let on = walks_draws p (cell_feed j n x next).next (read_at (with_job w j) j.place.pos y) in
    omega (arith, c, on)
walk_turn p n x next _ _ (fed_walks.ReadGoes w j k e) = let c = cell_draws j n x next in omega (arith, c)
walk_turn p n x next _ _ (fed_walks.ReadGone w j b e) = let c = cell_draws j n x next in omega (arith, c)
walk_turn p n x next _ _ (fed_walks.JobLearns w j k e) = let c = cell_draws j n x next in omega (arith, c)
walk_turn p n x next _ _ (fed_walks.JobFenced w j v e is) = let c = cell_draws j n x next in omega (arith, c)
walk_turn p n x next _ _ (fed_walks.JobPasses w j e is) = let c = cell_draws j n x next in omega (arith, c)

walk_draws : (p : Layout) (w : Walk) (n : ℕ) (x : Reply) (next : ℕ) → (walk_feed p w w.job n x next).next ≤ next + 2
walk_draws p w n x next = walk_turn p n x next w _ (fed_walks.walk_fed p n x next w)

walk_start_draws : (p : Layout) (o : Oid) (ls : List ℕ) (lo : ℕ) (known : List (ℕ × Cell)) (next : ℕ) → (walk_start p o ls lo known next).next ≤ next + 1
unfolding walk_start
walk_start_draws p o ls lo known next = walks_draws p next (record { oid = o; lo = lo; cells = known; trail = trail ls 0; members = []; job = None })

trim_turn : (p : Layout) (u : ℕ) (x : Reply) (next : ℕ) (t : Trims) (y : TrimTurn) → fed_trims.Fed p u x next t y → y.next ≤ next
trim_turn p u x next _ _ (fed_trims.TrimsOn b ws d w vs is left) = omega arith
trim_turn p u x next _ _ y = omega arith

trim_draws : (p : Layout) (t : Trims) (u : ℕ) (x : Reply) (next : ℕ) → (trim_feed p t u x next).next ≤ next
trim_draws p t u x next = trim_turn p u x next t _ (fed_trims.trims_fed p u x next t)

trim_start_draws : (k : ℕ) (p : Layout) → length (units_of p) ≤ k → (below next : ℕ) → (trim_start p below next).next ≤ next + k
unfolding trim_start
trim_start_draws k p few below next = omega (arith, few)

copy_turn : (p : Layout) (n : ℕ) (x : Reply) (next : ℕ) (c : Copying) (t : CopyTurn) → fed_copies.Fed p n x next c t → t.next ≤ next + 2
copy_turn p n x next _ _ (fed_copies.ReadGoes y j k e) = let c = cell_draws j n x next in omega (arith, c)
copy_turn p n x next _ _ (fed_copies.Stores y j z e) = let c = cell_draws j n x next in omega (arith, c)
copy_turn p n x next _ _ (fed_copies.Trims y j b e) = let c = cell_draws j n x next in omega (arith, c)
copy_turn p n x next _ _ (fed_copies.JobLearns y j k e) = let c = cell_draws j n x next in omega (arith, c)
copy_turn p n x next _ _ (fed_copies.JobFenced y j v e is) = let c = cell_draws j n x next in omega (arith, c)
copy_turn p n x next _ _ (fed_copies.JobPasses y j e is) = let c = cell_draws j n x next in omega (arith, c)
copy_turn p n x next _ _ y = omega arith

copy_draws : (p : Layout) (c : Copying) (n : ℕ) (x : Reply) (next : ℕ) → (copy_feed p c c.work n x next).next ≤ next + 2
copy_draws p c n x next = copy_turn p n x next c _ (fed_copies.copy_fed p n x next c)

copy_start_draws : (u r s next : ℕ) → (copy_start u r s next).next ≤ next + 1
unfolding copy_start
copy_start_draws u r s next = omega arith

begun_draws : (k : ℕ) (r : Reconf) (next : ℕ) (t : ReconfTurn) → length (next_units r.stand r.change) ≤ k → fed_reconfs.Begun r next t → t.next ≤ next + (k + 1)
begun_draws k r next _ few (fed_reconfs.JoinsNone e) = omega (arith, few)
begun_draws k r next _ few (fed_reconfs.Joins j e) = omega arith

reconf_start_draws : (k : ℕ) (p : Layout) (layouts : ℕ) (c : Changed) (me next : ℕ) → length (next_units p c) ≤ k → (reconf_start p layouts c me next).next ≤ next + (k + 1)
reconf_start_draws k p layouts c me next few = begun_draws k (record { change = c; me = me; layouts = layouts; stand = p; work = SealingSpare 0 }) next _ few (fed_reconfs.reconf_begun p layouts c me next)

reconf_turn : (k n rid : ℕ) (x : Reply) (next : ℕ) (r : Reconf) (t : ReconfTurn) → AsksFew k r → fed_reconfs.Fed n rid x next r t → t.next ≤ next + (k + 1)
reconf_turn k n rid x next _ _ few (fed_reconfs.SpareWhole r i is) = let f = few.units in omega (arith, f)
reconf_turn k n rid x next _ _ few (fed_reconfs.SpareFenced r w e i is f) = let f = few.units in omega (arith, f)
reconf_turn k n rid x next _ _ few (fed_reconfs.SealsLast r ws acks e h is f none j) = let f = few.servers in omega (arith, f)
reconf_turn k n rid x next _ _ few (fed_reconfs.AgainWhole r i acks is) = let f = few.servers in omega (arith, f)
reconf_turn k n rid x next _ _ few (fed_reconfs.PromisesMost r v u ws ps e b a of st is f g) = let f = few.servers in omega (arith, f)
reconf_turn k n rid x next _ _ few (fed_reconfs.AcceptsMost r v u ws i q e b of st is f g) = let f = few.servers in omega (arith, f)
reconf_turn k n rid x next _ _ few (fed_reconfs.Nacks r v u e b of is f g) = let f = few.servers in omega (arith, f)
reconf_turn k n rid x next _ _ few y = omega arith

reconf_draws : (k : ℕ) (r : Reconf) → AsksFew k r → (n rid : ℕ) (x : Reply) (next : ℕ) → (reconf_feed r r.work n rid x next).next ≤ next + (k + 1)
reconf_draws k r few n rid x next = reconf_turn k n rid x next r _ few (fed_reconfs.reconf_fed n rid x next r)

heard_turn : (k n rid : ℕ) (q : Layout) (next : ℕ) (r : Reconf) (t : ReconfTurn) → AsksFew k r → fed_reconfs.Heard n rid q next r t → t.next ≤ next + (k + 1)
heard_turn k n rid q next _ _ few (fed_reconfs.Adopts r ws i p e f g) = omega arith
heard_turn k n rid q next _ _ few (fed_reconfs.OwnDecided r w i e) = let f = few.servers in omega (arith, f)
heard_turn k n rid q next _ _ few y = omega arith

reconf_latest_draws : (k : ℕ) (r : Reconf) → AsksFew k r → (n rid : ℕ) (q : Layout) (next : ℕ) → (reconf_latest r r.work n rid q next).next ≤ next + (k + 1)
reconf_latest_draws k r few n rid q next = heard_turn k n rid q next r _ few (fed_reconfs.reconf_heard n rid q next r)

latest_of : (y : Msg) (q : Layout) → reply y ≡ IsLatest q → y ≡ msg.Latest q
unfolding reply
latest_of y q e = grind arith

-- Along a turn that began with the number `start`.
module _ (m : Meaning) (n start : ℕ) where
  -- what a task asks for
  abbrev TaskFew : Task m → Type 0
  TaskFew t = (r : Reconf) → t ≡ Reconfiguring r → AsksFew n r

  abbrev Here : Client m → Work m → Place m → Type 0
  Here c w (Feeds t i rid x) = (c.next ≡ start) × (c.layouts ≤ n) × HasFew n c.stand × TaskFew t
  Here c w (Newer t i rid q) = (c.next ≡ start) × (c.layouts ≤ n) × HasFew n c.stand × HasFew n q × TaskFew t
  Here c w p = (c.next ≤ start + (n + 2)) × (c.layouts ≤ n) × HasFew n c.stand

  abbrev Good : Moved m → Type 0
  Good x = x.now.next ≤ start + (2 * n + 3)

  -- after a machine's turn
  turned : (a b k : ℕ) → a ≡ start → b ≤ a + k → k ≤ n + 2 → b ≤ start + (n + 2)
  turned a b k e le few = omega (arith, e, le, few)

  way : (c : Client m) (w : Work m) (p : Place m) (d : Client m) (v : Work m) (q : Place m) → Way m c w p d v q → Here c w p → Here d v q
  way c w _ _ _ _ (FeedsSync s i rid x) h = (turned _ _ (n + 1) h.0 (sync_draws n c.stand h.2.chain s i x c.next) (omega arith), h.1, h.2)
  way c w _ _ _ _ (FeedsWalk k os i rid x) h = (turned _ _ 2 h.0 (walk_draws c.stand k i x c.next) (omega arith), h.1, h.2)
  way c w _ _ _ _ (FeedsAppend a y i rid x) h = (turned _ _ 2 h.0 (append_draws c.stand a i x c.next) (omega arith), h.1, h.2)
  way c w _ _ _ _ (FeedsTrims t i rid x) h = (turned _ _ 0 h.0 (let d = trim_draws c.stand t i x c.next in omega (arith, d)) (omega arith), h.1, h.2)
  way c w _ _ _ _ (FeedsCopy y i rid x) h = (turned _ _ 2 h.0 (copy_draws c.stand y i x c.next) (omega arith), h.1, h.2)
  way c w _ _ _ _ (FeedsReconf r i rid x) h = (turned _ _ (n + 1) h.0 (reconf_draws n r (h.3 r refl) i rid x c.next) (omega arith), h.1, h.2)
  way c w _ _ _ _ (NewerSync s i rid q) h = (turned _ _ 1 h.0 (sync_start_draws s.oids c.next) (omega arith), h.1, h.3)
  way c w _ _ _ _ (NewerWalk k os i rid q) h = (turned _ _ 1 h.0 (walks_draws q c.next k) (omega arith), h.1, h.3)
  way c w _ _ _ _ (NewerAppend a y i rid q) h = (turned _ _ 1 h.0 (append_again_draws q a c.next) (omega arith), h.1, h.3)
  way c w _ _ _ _ (NewerTrims t i rid q) h = (turned _ _ n h.0 (trim_start_draws n q h.3.units t.below c.next) (omega arith), h.1, h.3)
  way c w _ _ _ _ (NewerCopy x i rid q fine) h = (turned _ _ 1 h.0 (copy_start_draws x.unit x.range x.stripe c.next) (omega arith), h.1, h.3)
  way c w _ _ _ _ (NewerReconf r i rid q) h = (turned _ _ (n + 1) h.0 (reconf_latest_draws n r (h.4 r refl) i rid q c.next) (omega arith), h.1, h.2)
  way c w _ _ _ _ x h = h

  walked_way : (c : Client m) (w : Work m) (d : Client m) (q : Place m) → AllWalked m c w d q → (c.next ≤ start + (n + 2)) × (c.layouts ≤ n) × HasFew n c.stand → Here d w q
  walked_way c w _ _ (IsRescue at of) h = h
  walked_way c w _ _ x h = h

  -- What a turn comes to.

  going_few : (c : Client m) (w : Work m) (p : Place m) (d : Client m) (t : Task m) (bs : List Out) → IsGoing m c w p d t bs → Here c w p → d.next ≤ start + (2 * n + 3)
  going_few c w _ _ _ _ (WalkBegins o os x e) h =
      let le = h.0 in
      let one = walk_start_draws c.stand o (lasts_of m w o) w.lo c.cells c.next in
      omega (arith, le, one)
  going_few c w _ _ _ _ (TrimsBegin es p upto of came some) h = let le = h.0 in let few = h.2.units in omega (arith, le, few)
  going_few c w _ _ _ _ x h = let le = h.0 in omega (arith, le)

  learning_few : (c : Client m) (w : Work m) (p : Place m) (t : Task m) → IsLearning m c w p t → Here c w p → c.next + c.layouts ≤ start + (2 * n + 3)
  learning_few c w _ _ (SyncLearns bs s) h = let le = h.0 in let few = h.1 in omega (arith, le, few)
  learning_few c w _ _ x h = let le = h.0 in let few = h.1 in omega (arith, le, few)

  synced_few : (c : Client m) (w : Work m) (p : Place m) (d : Client m) (v : Work m) (os : List Oid) → IsSynced m c w p d v os → Here c w p → d.next ≤ start + (n + 2)
  synced_few c w _ _ _ _ (JudgedAt bs p d) h = h.0
  synced_few c w _ _ _ _ x h = h.0

  syncs_few : (d : Client m) (v : Work m) (os : List Oid) → d.next ≤ start + (n + 2) → Good (syncs m d v os)
  unfolding syncs sync_start
  syncs_few d v os le = omega (arith, le)

  appended_few : (c : Client m) (w : Work m) (p : Place m) (d : Client m) (e : Entry) (y : Purpose m) (ns : List (NoteOf m)) → IsAppended m c w p d e y ns → Here c w p → d.next ≤ start + (n + 2)
  appended_few c w _ _ _ _ _ (MarkBegins es p upto o i of came may) h = h.0
  appended_few c w _ _ _ _ _ x h = h.0

  appends_few : (d : Client m) (w : Work m) (e : Entry) (y : Purpose m) (ns : List (NoteOf m)) → d.next ≤ start + (n + 2) → Good (appends m d w e y ns)
  unfolding appends append_start
  appends_few d w e y ns le = omega (arith, le)

  refused_few : (c : Client m) (w : Work m) (p : Place m) (d : Client m) (i : ℕ) (why : Refusal) → IsRefused m c w p d i why → Here c w p → d.next ≤ start + (n + 2)
  refused_few c w _ _ _ _ (CopyFault x i rid q why e) h = let same = h.0 in omega (arith, same)
  refused_few c w _ _ _ _ x h = h.0

  took_few : (d : Client m) (v : Option (View m)) → d.next ≤ start + (n + 2) → (took_over m d v).next ≤ start + (n + 2)
  took_few d None le = le
  took_few d (Some v) le = le

  answered_few : (c : Client m) (w : Work m) (p : Place m) (d : Client m) (i : ℕ) (what : WhatOf m) → IsAnswered m c w p d i what → Here c w p → d.next ≤ start + (n + 2)
  answered_few c w _ _ _ _ (IsSaved o upto bs p d) h = h.0
  answered_few c w _ _ _ _ x h = h.0

  told_few : (c : Client m) (w : Work m) (p : Place m) (d : Client m) (ns : List (NoteOf m)) → IsTold m c w p d ns → Here c w p → d.next ≤ start + (n + 2)
  told_few c w _ _ _ (IsMarked i o mark bs p d) h = took_few (owns m c p d) c.view h.0
  told_few c w _ _ _ x h = h.0

  wider : (k : ℕ) → k ≤ start + (n + 2) → k ≤ start + (2 * n + 3)
  wider k le = omega (arith, le)

  ends_few : (c : Client m) (w : Work m) (p : Place m) (x : Moved m) → End m c w p x → Here c w p → Good x
  ends_few c w p _ (GoesOn d t bs x) h = going_few c w p d t bs x h
  ends_few c w p _ (LearnsNewer t x) h = learning_few c w p t x h
  ends_few c w p _ (Syncs d v os x) h = syncs_few d v os (synced_few c w p d v os x h)
  ends_few c w p _ (Appends d e y ns x) h = appends_few d w e y ns (appended_few c w p d e y ns x h)
  ends_few c w p _ (Refuses d i why x) h = wider _ (refused_few c w p d i why x h)
  ends_few c w p _ (Answers d i what x) h = wider _ (took_few d d.view (answered_few c w p d i what x h))
  ends_few c w p _ (Tells d ns x) h = wider _ (told_few c w p d ns x h)

module _ (m : Meaning) (n : ℕ) (c : Client m) (few : IsFew m n c) where
  -- A command.

  said_same : (x : CommandOf m) (d : Client m) (ns : List (NoteOf m)) → IsSaid m c x d ns → d.next ≡ c.next
  said_same _ _ _ Begins = refl
  said_same _ _ _ s = refl

  takes_few : (x : CommandOf m) → GivesFew m n c x → (y : Moved m) → Taken m c x y → Good m n c.next y
  unfolding syncs sync_start appends append_start
  takes_few _ g _ (SaidAtOnce x d ns s) = let same = said_same x d ns s in omega (arith, same)
  takes_few _ g _ (SyncsFirst x k) = omega arith
  takes_few _ g _ (AppendsRecord t y has some k) = omega arith
  takes_few _ g _ (ReconfBegins x i r e) =
      let draws = reconf_start_draws n c.stand c.layouts x c.num c.next g in
      let same = ap (λ (t : ReconfTurn). t.next) e in
      omega (arith, draws, same)
  takes_few _ g _ (CopyBegins u r s) = omega arith

  command_few : (x : CommandOf m) → GivesFew m n c x → (client_command m c x).now.next ≤ c.next + (2 * n + 3)
  unfolding client_command
  command_few x g = commanded m (Good m n c.next) c x (λ why e. omega arith) (λ e y t. takes_few x g y t)

  -- A message.

  stand_of : (y : Msg) (q : Layout) → reply y ≡ IsLatest q → TellsFew m n y → HasFew n q
  stand_of y q e t = subst (λ (z : Msg). TellsFew m n z) (latest_of y q e) t

  deliver_few : (from : NodeId) (rid : ℕ) (y : Msg) → TellsFew m n y → (client_deliver m c from rid y).now.next ≤ c.next + (2 * n + 3)
  unfolding client_deliver
  deliver_few from rid y t = delivered m (Here m n c.next) (Good m n c.next) (ends_few m n c.next) (way m n c.next)
      (over_walks m (Here m n c.next) (Good m n c.next) (ends_few m n c.next) (walked_way m n c.next)) c from rid (reply y) (omega arith)
      (λ w t has doing a other. (refl, few.servers, few.stand, λ r e. few.change w r has (ap (λ (d : Hand m). task_in m d) doing ∙ e)))
      (λ w q has is e. (refl, few.servers, few.stand, stand_of y q is t, λ r f. few.change w r has f))

  tick_few : (client_tick m c).now.next ≤ c.next + (2 * n + 3)
  tick_few = let servers = few.servers in ticked m (λ t. t.now.next ≤ c.next + (2 * n + 3)) c (λ e. omega arith) (λ w e. omega (arith, servers))

  draws_few : DrawsFew m n c
  draws_few = record { command = λ x g. command_few x g; deliver = λ from rid x t. deliver_few from rid x t; tick = tick_few }

pub draw_few : (m : Meaning) → DrawFew m
draw_few m n c few = draws_few m n c few
