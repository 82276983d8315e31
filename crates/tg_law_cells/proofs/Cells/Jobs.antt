-- What each machine that is in hand knows of its cell, among these packets.
use Rattle.std.proofs.Common.{◌≡◌, ℕ, List, refl, sym, ap, ◌∙◌, subst, arith, Some, None, Option}
use Rattle.tg_base.specs.Layouts.{Layout}
use Rattle.tg_base.specs.declared.cell.Cell.{Cell}
use Rattle.tg_base.specs.declared.ids.Oid.{Oid}
use Rattle.tg_base.specs.declared.msg.Msg.{Msg}
use Rattle.tg_base.specs.declared.packet.Packet.{Packet}
use Rattle.tg_protocol.specs.Requests.{Next, Goes, Turn}
use Rattle.tg_protocol.specs.Replies.{reply}
use Rattle.tg_protocol.specs.Cells.{Place, place_in, CellJob, Done, cell_feed}
use Rattle.tg_protocol.specs.Appending.{AppendWork, Asking, Putting, Judging, Append, AppendEnd, append_feed, append_again}
use Rattle.tg_protocol.specs.Syncing.{SyncWork, Checking, Settling, Probing, Sync, Confirmed, sync_start, sync_feed}
use Rattle.tg_protocol.specs.Walking.{Walk, Members, WalkTurn, with_job, walk_from, walk_feed, read_at}
use Rattle.tg_protocol.specs.Trimming.{CopyWork, Reading, Storing, Copying, CopyEnd, copy_start, copy_feed}
use Rattle.tg_law_cells.proofs.Cells.Justified.{WorkOk, EndOk, NextOk, Claims, turn_ok}
use Rattle.tg_law_steps.proofs.Machines.Cells as cells
use Rattle.tg_law_steps.proofs.Machines.Appends as appends
use Rattle.tg_law_steps.proofs.Machines.Syncs as syncs
use Rattle.tg_law_steps.proofs.Machines.Walks as reads
use Rattle.tg_law_steps.proofs.Machines.Copies as copies

module _ (ps : List Packet) (p : Layout) where
  -- a cell of this layout
  pub record JobOk (j : CellJob) : Type 0 where
    pub place : j.place ≡ place_in p j.place.pos
    pub work : WorkOk ps j.place j.work

  pub job_of : (j k : CellJob) → JobOk j → (k.place ≡ j.place) × WorkOk ps j.place k.work → JobOk k
  job_of j k o h = record { place = h.0 ∙ (o.place ∙ ap (λ (a : Place). place_in p a.pos) (sym h.0)); work = subst (λ (a : Place). WorkOk ps a k.work) (sym h.0) h.1 }

  -- the last unit of this layout's chain has told a cell, or all of them have
  abbrev pub CellOk : ℕ → Cell → Type 0
  CellOk pos c = EndOk ps (place_in p pos) (Done c)

  pub cell_ok : (j : CellJob) (y : Msg) → JobOk j → Claims ps j.place j.work y → (u next : ℕ) → NextOk ps j.place (cell_feed j u (reply y) next).to
  cell_ok j y o h u next = turn_ok ps u y next j _ (cells.cell_fed u (reply y) next j) o.work h

  -- where it goes on
  turned : (j k : CellJob) (y : Msg) (n next : ℕ) → JobOk j → Claims ps j.place j.work y → (cell_feed j n (reply y) next).to ≡ Goes k → JobOk k
  turned j k y n next o h e = job_of j k o (subst (NextOk ps j.place) e (cell_ok j y o h n next))

  -- Appends.

  abbrev pub AppendOk : AppendWork → Type 0
  AppendOk (Asking r) = Unit {0}
  AppendOk (Putting j) = JobOk j
  AppendOk (Judging j) = JobOk j

  abbrev pub AppendNext : Next Append AppendEnd → Type 0
  AppendNext (Goes a) = AppendOk a.work
  AppendNext _ = Unit {0}

  abbrev pub AppendClaims : AppendWork → Msg → Type 0
  AppendClaims (Asking r) y = Unit {0}
  AppendClaims (Putting j) y = Claims ps j.place j.work y
  AppendClaims (Judging j) y = Claims ps j.place j.work y

  append_turn : (n : ℕ) (y : Msg) (next : ℕ) (a : Append) (t : Turn Append AppendEnd) → appends.Fed p n (reply y) next a t → AppendOk a.work → AppendClaims a.work y → AppendNext t.to
  append_turn n y next _ _ (appends.Issues d o r pos ls is e) k h = record { place = refl; work = (λ past. absurd (omega (arith, past)), λ i less. absurd (omega (arith, less))) }
  append_turn n y next _ _ (appends.PutGoes d t j x e) k h = turned j x y n next k h e
  append_turn n y next _ _ (appends.JudgeGoes d t j x e) k h = turned j x y n next k h e
  append_turn n y next _ _ (appends.JobPasses d t w j e of is) k h = k
  append_turn n y next _ _ (appends.Nothing a) k h = k
  append_turn n y next _ _ x k h = tt

  pub append_ok : (a : Append) (n : ℕ) (y : Msg) (next : ℕ) → AppendOk a.work → AppendClaims a.work y → AppendNext (append_feed p a a.work n (reply y) next).to
  append_ok a n y next k h = append_turn n y next a _ (appends.append_fed p n (reply y) next a) k h

  again_ok : (next : ℕ) (a : Append) (t : Turn Append AppendEnd) → appends.Anew p next a t → AppendNext t.to
  again_ok next _ _ (appends.Settles d t w e) = record { place = refl; work = tt }
  again_ok next _ _ x = tt

  pub append_again_ok : (a : Append) (next : ℕ) → AppendNext (append_again p a next).to
  append_again_ok a next = again_ok next a _ (appends.append_anew p next a)

  -- Syncs.

  abbrev pub SyncOk : SyncWork → Type 0
  SyncOk (Checking r) = Unit {0}
  SyncOk (Settling a j) = JobOk j
  SyncOk (Probing a j) = JobOk j

  abbrev pub SyncNext : Next Sync Confirmed → Type 0
  SyncNext (Goes s) = SyncOk s.work
  SyncNext _ = Unit {0}

  abbrev pub SyncClaims : SyncWork → Msg → Type 0
  SyncClaims (Checking r) y = Unit {0}
  SyncClaims (Settling a j) y = Claims ps j.place j.work y
  SyncClaims (Probing a j) y = Claims ps j.place j.work y

  sync_turn : (n : ℕ) (y : Msg) (next : ℕ) (s : Sync) (t : Turn Sync Confirmed) → syncs.Fed p n (reply y) next s t → SyncOk s.work → SyncClaims s.work y → SyncNext t.to
  sync_turn n y next _ _ (syncs.SettlesLast os r t ls is named e) k h = record { place = refl; work = tt }
  sync_turn n y next _ _ (syncs.ProbesLast os r t ls is named e) k h = record { place = refl; work = tt }
  sync_turn n y next _ _ (syncs.SettleGone os a j b e) k h = record { place = refl; work = tt }
  sync_turn n y next _ _ (syncs.SettleGoes os a j x e) k h = turned j x y n next k h e
  sync_turn n y next _ _ (syncs.ProbeGoes os a j x e) k h = turned j x y n next k h e
  sync_turn n y next _ _ (syncs.JobPasses os w j e of is) k h = k
  sync_turn n y next _ _ (syncs.Nothing s) k h = k
  sync_turn n y next _ _ x k h = tt

  pub sync_ok : (s : Sync) (n : ℕ) (y : Msg) (next : ℕ) → SyncOk s.work → SyncClaims s.work y → SyncNext (sync_feed p s s.work n (reply y) next).to
  sync_ok s n y next k h = sync_turn n y next s _ (syncs.sync_fed p n (reply y) next s) k h

  pub sync_start_ok : (os : List Oid) (next : ℕ) → SyncNext (sync_start os next).to
  unfolding sync_start
  sync_start_ok os next = tt

  -- Walks.

  abbrev pub MaybeOk : Option CellJob → Type 0
  MaybeOk None = Unit {0}
  MaybeOk (Some j) = JobOk j

  abbrev pub WalkNext : Next Walk Members → Type 0
  WalkNext (Goes w) = MaybeOk w.job
  WalkNext _ = Unit {0}

  pub walks_ok : (next : ℕ) (w : Walk) → WalkNext (walk_from p next w).to
  walks_ok next w = reads.goes_on p next (λ (v : Walk). Unit {0}) (λ (t : WalkTurn). WalkNext t.to) (λ v q c is e h. tt) (λ v h. tt) (λ v q is e h. record { place = refl; work = tt }) _ w tt

  abbrev pub MaybeClaims : Option CellJob → Msg → Type 0
  MaybeClaims None y = Unit {0}
  MaybeClaims (Some j) y = Claims ps j.place j.work y

  walk_turn : (n : ℕ) (y : Msg) (next : ℕ) (w : Walk) (t : WalkTurn) → reads.Fed p n (reply y) next w t → MaybeOk w.job → MaybeClaims w.job y → WalkNext t.to
  walk_turn n y next _ _ (reads.ReadGoes w j x e) k h = turned j x y n next k h e
  walk_turn n y next _ _ (reads.ReadDone w j c e) k h = walks_ok (cell_feed j n (reply y) next).next (read_at (with_job w j) j.place.pos c)
  walk_turn n y next _ _ (reads.JobPasses w j e is) k h = k
  walk_turn n y next _ _ (reads.Nothing w) k h = k
  walk_turn n y next _ _ x k h = tt

  pub walk_ok : (w : Walk) (n : ℕ) (y : Msg) (next : ℕ) → MaybeOk w.job → MaybeClaims w.job y → WalkNext (walk_feed p w w.job n (reply y) next).to
  walk_ok w n y next k h = walk_turn n y next w _ (reads.walk_fed p n (reply y) next w) k h

  -- Copies.

  abbrev pub CopyOk : CopyWork → Type 0
  CopyOk (Reading j) = JobOk j
  CopyOk (Storing r pos x) = CellOk pos x
  CopyOk w = Unit {0}

  abbrev pub CopyNext : Next Copying CopyEnd → Type 0
  CopyNext (Goes c) = CopyOk c.work
  CopyNext _ = Unit {0}

  abbrev pub CopyClaims : CopyWork → Msg → Type 0
  CopyClaims (Reading j) y = Claims ps j.place j.work y
  CopyClaims w y = Unit {0}

  copy_turn : (n : ℕ) (y : Msg) (next : ℕ) (c : Copying) (t : Turn Copying CopyEnd) → copies.Fed p n (reply y) next c t → CopyOk c.work → CopyClaims c.work y → CopyNext t.to
  copy_turn n y next _ _ (copies.ReadGoes c j x e) k h = turned j x y n next k h e
  copy_turn n y next _ _ (copies.Stores c j z e) k h = subst (λ (b : Place). EndOk ps b (Done z)) k.place (subst (NextOk ps j.place) e (cell_ok j y k h n next))
  copy_turn n y next _ _ (copies.Reads c w at gone g e) k h = record { place = refl; work = tt }
  copy_turn n y next _ _ (copies.JobPasses c j e is) k h = k
  copy_turn n y next _ _ (copies.Nothing c) k h = k
  copy_turn n y next _ _ x k h = tt

  pub copy_ok : (c : Copying) (n : ℕ) (y : Msg) (next : ℕ) → CopyOk c.work → CopyClaims c.work y → CopyNext (copy_feed p c c.work n (reply y) next).to
  copy_ok c n y next k h = copy_turn n y next c _ (copies.copy_fed p n (reply y) next c) k h

  pub copy_start_ok : (u r s next : ℕ) → CopyNext (copy_start u r s next).to
  unfolding copy_start
  copy_start_ok u r s next = tt
