-- Of all that a client does, only walks and copies read cells.
use Rattle.std.proofs.Common.{◌≡◌, ℕ, List, [], ◌∷◌, sym, ap, ◌∙◌, subst, inl, inr}
use Rattle.tg_base.specs.Layouts.{Layout}
use Rattle.tg_base.specs.declared.ids.NodeId.{NodeId}
use Rattle.tg_base.specs.declared.msg.Msg.{Msg}
use Rattle.tg_base.specs.declared.msg.Msg.TheVariants as msg
use Rattle.tg_base.specs.declared.packet.Out.{Out}
use Rattle.tg_protocol.specs.Words.{unit_id}
use Rattle.tg_protocol.specs.Requests.{out, Waits, asked_of, Next, Goes, Learns, Ends, Turn}
use Rattle.tg_protocol.specs.Replies.{Reply}
use Rattle.tg_protocol.specs.Cells.{Place, CellWork, Puts, Gets, Fills, Copies, Probes, CellJob, CellEnd, work_asks, cell_asks, cell_feed}
use Rattle.tg_protocol.specs.Appending.{Append, AppendWork, Asking, Putting, Judging, AppendEnd, append_feed, append_again}
use Rattle.tg_protocol.specs.Syncing.{SyncWork, Checking, Settling, Probing, Sync, Confirmed, sync_feed}
use Rattle.tg_law_layouts.proofs.Moves.Members.{Has, has_map}
use Rattle.tg_law_steps.proofs.Machines.Cells as cell
use Rattle.tg_law_steps.proofs.Machines.Appends as append
use Rattle.tg_law_steps.proofs.Machines.Syncs as sync

-- no cell is read by these
abbrev pub Quiet : List Out → Type 0
Quiet os = (o : Out) (epoch p : ℕ) → Has os o → o.msg ≡ msg.Read epoch p → ⊥

pub none_quiet : Quiet []
none_quiet o epoch p h = absurd h

pub one_quiet : (to : NodeId) (r : ℕ) (x : Msg) → ((epoch p : ℕ) → x ≡ msg.Read epoch p → ⊥) → Quiet (out to r x ∷ [])
one_quiet to r x f o epoch p (inl e) is = f epoch p (ap (λ (y : Out). y.msg) (sym e) ∙ is)
one_quiet to r x f o epoch p (inr h) is = absurd h

pub all_quiet : (name : ℕ → NodeId) (x : Msg) (ws : Waits) → ((epoch p : ℕ) → x ≡ msg.Read epoch p → ⊥) → Quiet (asked_of name x ws)
all_quiet name x ws f o epoch p h is = let y = has_map (λ (w : ℕ × ℕ). out (name w.0) w.1 x) ws o h in f epoch p (ap (λ (z : Out). z.msg) (sym y.is) ∙ is)

-- Cells.

abbrev pub NotGets : CellWork → Type 0
NotGets (Gets r) = ⊥
NotGets w = Unit {0}

pub work_quiet : (a : Place) (w : CellWork) → NotGets w → Quiet (work_asks a w)
unfolding work_asks
work_quiet a (Puts r d i) k = one_quiet _ r (msg.Write a.epoch a.pos d) (λ e p h. cc)
work_quiet a (Gets r) k = absurd k
work_quiet a (Fills r) k = one_quiet _ r (msg.Fill a.epoch a.pos) (λ e p h. cc)
work_quiet a (Copies r c i) k = one_quiet _ r (msg.Copy a.epoch a.pos c) (λ e p h. cc)
work_quiet a (Probes ws) k = all_quiet unit_id (msg.Has a.epoch a.pos a.pos 1) ws (λ e p h. cc)

same_pos : (e f p q : ℕ) → msg.Read e p ≡ msg.Read f q → q ≡ p
same_pos e f p q h = cc

gets_at : (a : Place) (r : ℕ) (o : Out) (epoch p : ℕ) → Has (work_asks a (Gets r)) o → o.msg ≡ msg.Read epoch p → p ≡ a.pos
unfolding work_asks
gets_at a r o epoch p (inl e) is = same_pos a.epoch epoch a.pos p (ap (λ (y : Out). y.msg) (sym e) ∙ is)
gets_at a r o epoch p (inr h) is = absurd h

-- what reads a cell reads it at the position of its job
pub job_reads : (j : CellJob) (o : Out) (epoch p : ℕ) → Has (cell_asks j) o → o.msg ≡ msg.Read epoch p → p ≡ j.place.pos
job_reads j = by j.work
  where
    none : (w : CellWork) → NotGets w → (o : Out) (epoch p : ℕ) → Has (work_asks j.place w) o → o.msg ≡ msg.Read epoch p → p ≡ j.place.pos
    none w k o epoch p h is = absurd (work_quiet j.place w k o epoch p h is)

    by : (w : CellWork) → (o : Out) (epoch p : ℕ) → Has (work_asks j.place w) o → o.msg ≡ msg.Read epoch p → p ≡ j.place.pos
    by (Gets r) = gets_at j.place r
    by (Puts r d i) = none (Puts r d i) tt
    by (Fills r) = none (Fills r) tt
    by (Copies r c i) = none (Copies r c i) tt
    by (Probes ws) = none (Probes ws) tt

abbrev pub CellQuiet : Next CellJob CellEnd → Type 0
CellQuiet (Goes j) = NotGets j.work
CellQuiet to = Unit {0}

fed_quiet : (u : ℕ) (x : Reply) (next : ℕ) (j : CellJob) (t : Turn CellJob CellEnd) → cell.Fed u x next j t → NotGets j.work → CellQuiet t.to
fed_quiet u x next _ _ (cell.Nothing j) k = k
fed_quiet u x next _ _ s k = tt

cell_quiet : (j : CellJob) (u : ℕ) (x : Reply) (next : ℕ) → NotGets j.work → CellQuiet (cell_feed j u x next).to
cell_quiet j u x next k = fed_quiet u x next j _ (cell.cell_fed u x next j) k

-- Syncs.

abbrev pub SyncQuiet : SyncWork → Type 0
SyncQuiet (Checking r) = Unit {0}
SyncQuiet (Settling a j) = NotGets j.work
SyncQuiet (Probing a j) = NotGets j.work

abbrev pub SyncNext : Next Sync Confirmed → Type 0
SyncNext (Goes s) = SyncQuiet s.work
SyncNext (Learns s) = SyncQuiet s.work
SyncNext (Ends x) = Unit {0}

-- Appends.

abbrev pub AppendQuiet : AppendWork → Type 0
AppendQuiet (Asking r) = Unit {0}
AppendQuiet (Putting j) = NotGets j.work
AppendQuiet (Judging j) = NotGets j.work

abbrev pub AppendNext : Next Append AppendEnd → Type 0
AppendNext (Goes a) = AppendQuiet a.work
AppendNext (Learns a) = AppendQuiet a.work
AppendNext (Ends e) = Unit {0}

module _ (p : Layout) (n : ℕ) (x : Reply) (next : ℕ) where
  goes_quiet : (j i : CellJob) → NotGets j.work → (cell_feed j n x next).to ≡ Goes i → NotGets i.work
  goes_quiet j i k e = subst CellQuiet e (cell_quiet j n x next k)

  sync_so : (s : Sync) (w : SyncWork) (to : Next Sync Confirmed) → sync.SyncCame p s n x next w to → SyncQuiet s.work → SyncQuiet w → SyncNext to
  sync_so s _ _ (sync.Waits w) ok k = ok
  sync_so s _ _ (sync.NewerCame w) ok k = ok
  sync_so s _ _ (sync.SettlesOn a j i e) ok k = goes_quiet j i k e
  sync_so s _ _ (sync.ProbesOn a j i e) ok k = goes_quiet j i k e
  sync_so s _ _ t ok k = tt

  pub sync_quiet : (s : Sync) → SyncQuiet s.work → SyncNext (sync_feed p s s.work n x next).to
  sync_quiet s k = sync_so s s.work _ (sync.sync_came p s n x next s.work) k k

  append_so : (a : Append) (w : AppendWork) (to : Next Append AppendEnd) → append.AppendCame p a n x next w to → AppendQuiet a.work → AppendQuiet w → AppendNext to
  append_so a _ _ (append.Waits w) ok k = ok
  append_so a _ _ (append.NewerCame w) ok k = ok
  append_so a _ _ (append.PutsOn j i t has e) ok k = goes_quiet j i k e
  append_so a _ _ (append.JudgesOn j i t has e) ok k = goes_quiet j i k e
  append_so a _ _ t ok k = tt

  pub append_quiet : (a : Append) → AppendQuiet a.work → AppendNext (append_feed p a a.work n x next).to
  append_quiet a k = append_so a a.work _ (append.append_came p a n x next a.work) k k

again_so : (q : Layout) (a : Append) (next : ℕ) (to : Next Append AppendEnd) → append.AppendAgain q a next to → AppendNext to
again_so q a next _ append.AsksAgain = tt
again_so q a next _ s = tt

pub append_again_quiet : (q : Layout) (a : Append) (next : ℕ) → AppendNext (append_again q a next).to
append_again_quiet q a next = again_so q a next _ (append.append_again_came q a next)
