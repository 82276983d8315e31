-- The request numbers that each machine draws.
use Rattle.std.proofs.Common.{◌≡◌, ℕ, ◌+◌, ◌≤◌, List, [], sym, subst, arith, None}
use Rattle.tg_base.specs.Layouts.{Layout}
use Rattle.tg_base.specs.declared.cell.Cell.{Cell}
use Rattle.tg_base.specs.declared.ids.Oid.{Oid}
use Rattle.tg_base.specs.declared.msg.Msg.TheVariants as msg
use Rattle.tg_base.specs.declared.packet.Out.{Out}
use Rattle.tg_entry.specs.declared.entry.Entry.{Entry}
use Rattle.tg_protocol.specs.Words.{unit_id}
use Rattle.tg_protocol.specs.Layouts.{units_of}
use Rattle.tg_protocol.specs.Requests.{Waits, asked_of, without_wait, Goes}
use Rattle.tg_protocol.specs.Replies.{Reply}
use Rattle.tg_protocol.specs.Cells.{Place, Probes, CellJob, CellTurn, work_asks, cell_asks, get_cell, cell_feed}
use Rattle.tg_protocol.specs.Appending.{Append, AppendTurn, append_work_asks, append_asks, asks_token, append_feed, append_again}
use Rattle.tg_protocol.specs.Syncing.{Sync, SyncTurn, sync_work_asks, sync_asks, sync_start, sync_feed}
use Rattle.tg_protocol.specs.Walking.{Walk, WalkTurn, with_job, walk_asks, walk_from, walk_start, walk_feed, walk_again, read_at, trail}
use Rattle.tg_protocol.specs.Trimming.{Trims, TrimTurn, trim_asks, trim_start, trim_feed, Copying, CopyTurn, copy_work_asks, copy_asks, copy_start, copy_feed}
use Rattle.tg_law_layouts.proofs.Moves.Members.{Has}
use Rattle.tg_law_layouts.proofs.Moves.Draws.{Drawn, next_up, next_wider, TurnDraws, NextDraws, keeps, same, draws_one, draws_all, besides, later, fewer_asked, without}
use Rattle.tg_law_steps.proofs.Machines.Cells as cells
use Rattle.tg_law_steps.proofs.Machines.Appends as appends
use Rattle.tg_law_steps.proofs.Machines.Syncs as syncs
use Rattle.tg_law_steps.proofs.Machines.Walks as reads
use Rattle.tg_law_steps.proofs.Machines.Copies as copies
use Rattle.tg_law_steps.proofs.Machines.Trims as trims

-- Cells.

abbrev pub CellDraws : List Out → ℕ → CellTurn → Type 0
CellDraws old next t = TurnDraws cell_asks old next t

probed : (a : Place) (u : ℕ) (ws : Waits) (o : Out) → Has (work_asks a (Probes (without_wait u ws))) o → Has (work_asks a (Probes ws)) o
unfolding work_asks
probed a u ws o h = fewer_asked unit_id _ u ws o h

pub get_draws : (old : List Out) (a : Place) (next : ℕ) → CellDraws old next (get_cell a next)
unfolding get_cell work_asks
get_draws old a next = draws_one old next _ _

cell_turn : (u : ℕ) (x : Reply) (next : ℕ) (j : CellJob) (t : CellTurn) → cells.Fed u x next j t → CellDraws (cell_asks j) next t
unfolding work_asks
cell_turn u x next _ _ (cells.PutsOn a r d i is f) = draws_one _ next _ _
cell_turn u x next _ _ (cells.ReadsNone a r is) = draws_one _ next _ _
cell_turn u x next _ _ (cells.CopiesOn a w c i k f) = draws_one _ next _ _
cell_turn u x next _ _ (cells.ProbesOn a ws v vs k e) = keeps _ next _ next (omega arith) (λ o h. probed a u ws o (subst (λ (zs : Waits). Has (work_asks a (Probes zs)) o) (sym e) h))
cell_turn u x next _ _ (cells.Nothing j) = same (cell_asks j) next
cell_turn u x next _ _ y = omega arith

pub cell_feed_draws : (j : CellJob) (u : ℕ) (x : Reply) (next : ℕ) → CellDraws (cell_asks j) next (cell_feed j u x next)
cell_feed_draws j u x next = cell_turn u x next j _ (cells.cell_fed u x next j)

-- no number below the next is drawn
cell_up : (j : CellJob) (u : ℕ) (x : Reply) (next : ℕ) → next ≤ (cell_feed j u x next).next
cell_up j u x next = next_up cell_asks (cell_asks j) next _ _ _ (cell_feed_draws j u x next)

-- where it goes on
cell_goes : (j k : CellJob) (u : ℕ) (x : Reply) (next : ℕ) → (cell_feed j u x next).to ≡ Goes k → Drawn (cell_asks j) next (cell_asks k) (cell_feed j u x next).next
cell_goes j k u x next e = without (cell_asks j) next (cell_feed j u x next).besides (cell_asks k) (cell_feed j u x next).next
    (subst (NextDraws cell_asks (cell_asks j) next (cell_feed j u x next).besides (cell_feed j u x next).next) e (cell_feed_draws j u x next))

-- Appends.

module _ (p : Layout) where
  abbrev AppendDraws : List Out → ℕ → AppendTurn → Type 0
  AppendDraws old next t = TurnDraws (append_asks p) old next t

  token_draws : (old : List Out) (d : Entry) (next mid : ℕ) → next ≤ mid → AppendDraws old next (asks_token d mid)
  unfolding append_work_asks
  token_draws old d next mid le = later old next mid _ (mid + 1) le (draws_one [] mid _ _)

  append_turn : (n : ℕ) (x : Reply) (next : ℕ) (a : Append) (t : AppendTurn) → appends.Fed p n x next a t → AppendDraws (append_asks p a) next t
  unfolding append_work_asks work_asks
  append_turn n x next _ _ (appends.Issues d o r pos ls is e) = draws_one _ next _ _
  append_turn n x next _ _ (appends.IsFilled d o r l is) = omega arith
  append_turn n x next _ _ (appends.TellsLayout d o r e is f g) = besides _ next _ _
  append_turn n x next _ _ (appends.LearnsEpoch d o r e is f) = (omega arith, λ o h. h)
  append_turn n x next _ _ (appends.Nothing a) = same _ next
  append_turn n x next _ _ (appends.PutGoes d t j k e) = cell_goes j k n x next e
  append_turn n x next _ _ (appends.PutDone d t j c e) = cell_up j n x next
  append_turn n x next _ _ (appends.PutLost d t j c e) = token_draws _ d next _ (cell_up j n x next)
  append_turn n x next _ _ (appends.PutGone d t j b e) = cell_up j n x next
  append_turn n x next _ _ (appends.JudgeGoes d t j k e) = cell_goes j k n x next e
  append_turn n x next _ _ (appends.JudgeOwn d t j c e f) = cell_up j n x next
  append_turn n x next _ _ (appends.JudgeOther d t j c e f) = token_draws _ d next _ (cell_up j n x next)
  append_turn n x next _ _ (appends.JudgeGone d t j b e) = cell_up j n x next
  append_turn n x next _ _ (appends.JobLearns d t w j k of e) = (cell_up j n x next, λ o h. h)
  append_turn n x next _ _ (appends.JobFenced d t w j u e of is) = (cell_up j n x next, λ o h. h)
  append_turn n x next _ _ (appends.JobPasses d t w j e of is) = keeps _ next _ _ (cell_up j n x next) (λ o h. h)

  pub append_draws : (a : Append) (n : ℕ) (x : Reply) (next : ℕ) → AppendDraws (append_asks p a) next (append_feed p a a.work n x next)
  append_draws a n x next = append_turn n x next a _ (appends.append_fed p n x next a)

  anew_draws : (next : ℕ) (a : Append) (t : AppendTurn) → appends.Anew p next a t → AppendDraws [] next t
  unfolding append_work_asks work_asks
  anew_draws next _ _ (appends.HasNone d w) = token_draws [] d next next (omega arith)
  anew_draws next _ _ (appends.IsDead d t w e) = token_draws [] d next next (omega arith)
  anew_draws next _ _ (appends.Settles d t w e) = draws_one [] next _ _

  pub append_again_draws : (a : Append) (next : ℕ) → AppendDraws [] next (append_again p a next)
  append_again_draws a next = anew_draws next a _ (appends.append_anew p next a)

-- Syncs.

module _ (p : Layout) where
  abbrev SyncDraws : List Out → ℕ → SyncTurn → Type 0
  SyncDraws old next t = TurnDraws (sync_asks p) old next t

  sync_turn : (n : ℕ) (x : Reply) (next : ℕ) (s : Sync) (t : SyncTurn) → syncs.Fed p n x next s t → SyncDraws (sync_asks p s) next t
  unfolding sync_work_asks work_asks
  sync_turn n x next _ _ (syncs.SettlesLast os r t ls is named e) = draws_one _ next _ _
  sync_turn n x next _ _ (syncs.ProbesLast os r t ls is named e) = draws_all _ next unit_id _ _
  sync_turn n x next _ _ (syncs.TellsLayout os r e is f g) = besides _ next _ _
  sync_turn n x next _ _ (syncs.LearnsEpoch os r e is f) = (omega arith, λ o h. h)
  sync_turn n x next _ _ (syncs.Nothing s) = same _ next
  sync_turn n x next _ _ (syncs.SettleGoes os a j k e) = cell_goes j k n x next e
  sync_turn n x next _ _ (syncs.SettleDone os a j c e) = cell_up j n x next
  sync_turn n x next _ _ (syncs.SettleGone os a j b e) = later _ next _ _ _ (cell_up j n x next) (draws_all [] _ unit_id _ _)
  sync_turn n x next _ _ (syncs.ProbeGoes os a j k e) = cell_goes j k n x next e
  sync_turn n x next _ _ (syncs.ProbeSeen os a j e) = cell_up j n x next
  sync_turn n x next _ _ (syncs.JobLearns os w j k of e) = (cell_up j n x next, λ o h. h)
  sync_turn n x next _ _ (syncs.JobFenced os w j u e of is) = (cell_up j n x next, λ o h. h)
  sync_turn n x next _ _ (syncs.JobPasses os w j e of is) = keeps _ next _ _ (cell_up j n x next) (λ o h. h)

  pub sync_draws : (s : Sync) (n : ℕ) (x : Reply) (next : ℕ) → SyncDraws (sync_asks p s) next (sync_feed p s s.work n x next)
  sync_draws s n x next = sync_turn n x next s _ (syncs.sync_fed p n x next s)

  pub sync_start_draws : (os : List Oid) (next : ℕ) → SyncDraws [] next (sync_start os next)
  unfolding sync_start sync_work_asks
  sync_start_draws os next = draws_one [] next _ _

-- Walks.

module _ (p : Layout) where
  abbrev WalkDraws : List Out → ℕ → WalkTurn → Type 0
  WalkDraws old next t = TurnDraws walk_asks old next t

  walks_draws : (next : ℕ) (w : Walk) → WalkDraws [] next (walk_from p next w)
  unfolding work_asks
  walks_draws next w = reads.goes_on p next (λ (v : Walk). Unit {0}) (λ (t : WalkTurn). WalkDraws [] next t) (λ v q c is e h. tt) (λ v h. omega arith) (λ v q is e h. draws_one [] next _ _) _ w tt

  walk_turn : (n : ℕ) (x : Reply) (next : ℕ) (w : Walk) (t : WalkTurn) → reads.Fed p n x next w t → WalkDraws (walk_asks w) next t
  walk_turn n x next _ _ (reads.Nothing w) = same _ next
  walk_turn n x next _ _ (reads.ReadGoes w j k e) = cell_goes j k n x next e
  walk_turn n x next _ _ (reads.ReadDone w j c e) = next_wider walk_asks [] _ next _ _ _ _ (cell_up j n x next) (λ o h. absurd h) (walks_draws (cell_feed j n x next).next (read_at (with_job w j) j.place.pos c))
  walk_turn n x next _ _ (reads.ReadGone w j b e) = cell_up j n x next
  walk_turn n x next _ _ (reads.JobLearns w j k e) = (cell_up j n x next, λ o h. h)
  walk_turn n x next _ _ (reads.JobFenced w j v e is) = (cell_up j n x next, λ o h. h)
  walk_turn n x next _ _ (reads.JobPasses w j e is) = keeps _ next _ _ (cell_up j n x next) (λ o h. h)

  pub walk_draws : (w : Walk) (u : ℕ) (x : Reply) (next : ℕ) → WalkDraws (walk_asks w) next (walk_feed p w w.job u x next)
  walk_draws w u x next = walk_turn u x next w _ (reads.walk_fed p u x next w)

  pub walk_again_draws : (w : Walk) (next : ℕ) → WalkDraws [] next (walk_again p w next)
  walk_again_draws w next = walks_draws next w

  pub walk_start_draws : (o : Oid) (ls : List ℕ) (lo : ℕ) (cells : List (ℕ × Cell)) (next : ℕ) → WalkDraws [] next (walk_start p o ls lo cells next)
  unfolding walk_start
  walk_start_draws o ls lo cells next = walks_draws next (record { oid = o; lo = lo; cells = cells; trail = trail ls 0; members = []; job = None })

-- Trims.

module _ (p : Layout) where
  abbrev TrimDraws : List Out → ℕ → TrimTurn → Type 0
  TrimDraws old next t = TurnDraws (trim_asks p) old next t

  pub trim_start_draws : (below next : ℕ) → TrimDraws [] next (trim_start p below next)
  unfolding trim_start
  trim_start_draws below next = draws_all [] next unit_id _ (units_of p)

  trim_turn : (u : ℕ) (x : Reply) (next : ℕ) (t : Trims) (y : TrimTurn) → trims.Fed p u x next t y → TrimDraws (trim_asks p t) next y
  trim_turn u x next _ _ (trims.TrimsOn b ws d w vs is left) = keeps _ next _ next (omega arith)
      (λ o h. fewer_asked unit_id _ u ws o (subst (λ (zs : Waits). Has (asked_of unit_id (msg.Trim p.epoch b) zs) o) (sym left) h))
  trim_turn u x next _ _ (trims.TrimsLast b ws d is left) = omega arith
  trim_turn u x next _ _ (trims.IsFence t e is f) = (omega arith, λ o h. h)
  trim_turn u x next _ _ (trims.Nothing t) = same _ next

  pub trim_draws : (t : Trims) (u : ℕ) (x : Reply) (next : ℕ) → TrimDraws (trim_asks p t) next (trim_feed p t u x next)
  trim_draws t u x next = trim_turn u x next t _ (trims.trims_fed p u x next t)

-- Copies.

module _ (p : Layout) where
  abbrev CopyDraws : List Out → ℕ → CopyTurn → Type 0
  CopyDraws old next t = TurnDraws (copy_asks p) old next t

  copy_turn : (n : ℕ) (x : Reply) (next : ℕ) (c : Copying) (t : CopyTurn) → copies.Fed p n x next c t → CopyDraws (copy_asks p c) next t
  unfolding copy_work_asks work_asks
  copy_turn n x next _ _ (copies.Nothing c) = same _ next
  copy_turn n x next _ _ (copies.ReadGoes c j k e) = cell_goes j k n x next e
  copy_turn n x next _ _ (copies.Stores c j y e) = later _ next _ _ _ (cell_up j n x next) (draws_one [] _ _ _)
  copy_turn n x next _ _ (copies.Trims c j b e) = later _ next _ _ _ (cell_up j n x next) (draws_one [] _ _ _)
  copy_turn n x next _ _ (copies.JobLearns c j k e) = (cell_up j n x next, λ o h. h)
  copy_turn n x next _ _ (copies.JobFenced c j v e is) = (cell_up j n x next, λ o h. h)
  copy_turn n x next _ _ (copies.JobPasses c j e is) = keeps _ next _ _ (cell_up j n x next) (λ o h. h)
  copy_turn n x next _ _ (copies.Reads c w at gone g e) = draws_one _ next _ _
  copy_turn n x next _ _ (copies.LooksLast c w at gone g e) = draws_one _ next _ _
  copy_turn n x next _ _ (copies.HasAll c r is) = omega arith
  copy_turn n x next _ _ (copies.IsFence c w e k is f) = (omega arith, λ o h. h)

  pub copy_draws : (c : Copying) (u : ℕ) (x : Reply) (next : ℕ) → CopyDraws (copy_asks p c) next (copy_feed p c c.work u x next)
  copy_draws c u x next = copy_turn u x next c _ (copies.copy_fed p u x next c)

  pub copy_start_draws : (u r s next : ℕ) → CopyDraws [] next (copy_start u r s next)
  unfolding copy_start copy_work_asks
  copy_start_draws u r s next = draws_one [] next _ _
