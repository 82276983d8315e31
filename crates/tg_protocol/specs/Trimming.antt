-- Trims of all units, and the copy of a closed stripe to a spare unit.
use Rattle.std.specs.Prelude.{ℕ, ◌+◌, Bool, true, false, ◌==◌, nat_lt, List, [], ◌∷◌, length}
use Rattle.tg_base.specs.Layouts.{Layout}
use Rattle.tg_base.specs.declared.cell.Cell.{Cell}
use Rattle.tg_base.specs.declared.msg.Msg.{Msg}
use Rattle.tg_base.specs.declared.msg.Msg.TheVariants as msg
use Rattle.tg_base.specs.declared.packet.Out.{Out}
use Rattle.tg_protocol.specs.Words.{unit_id, cell_eq}
use Rattle.tg_proj.specs.Places.{range_at}
use Rattle.tg_protocol.specs.Layouts.{units_of, range_end, next_in_stripe}
use Rattle.tg_protocol.specs.Requests.{out, Waits, waits_for, asked_of, without_wait, Next, Goes, Learns, Ends, Turn, turn, passes, draws, ends, learns, met_gone}
use Rattle.tg_protocol.specs.Replies.{Reply, IsHeld, IsTaken, IsGone, IsFenced, IsSealed, IsMissing, IsWhole}
use Rattle.tg_protocol.specs.Cells.{CellJob, CellEnd, CellTurn, Done, Fenced, Gone, place_in, get_cell, cell_asks, cell_feed}

-- Trims.

pub record Trims : Type 0 where
  pub below : ℕ
  pub waits : Waits  -- the units that haven't answered

-- its end has nothing to tell
pub data Trimmed : Type 0 where
  AllTrimmed : Trimmed

abbrev pub TrimTurn : Type 0
TrimTurn = Turn Trims Trimmed

abbrev pub trim_asks : Layout → Trims → List Out
trim_asks p t = asked_of unit_id (msg.Trim p.epoch t.below) t.waits

-- to every unit that stands in a chain, rising
unfoldable pub trim_start : Layout → ℕ → ℕ → TrimTurn
trim_start p below next = turn (next + length (units_of p)) (Goes (record { below = below; waits = waits_for (units_of p) next }))

abbrev pub trims_left : ℕ → Waits → ℕ → TrimTurn
trims_left below [] next = ends next AllTrimmed
trims_left below (w ∷ ws) next = turn next (Goes (record { below = below; waits = w ∷ ws }))

abbrev pub learns_if : {M E : Type 0} → Bool → M → ℕ → Turn M E
learns_if true a next = learns next a
learns_if false a next = passes next a

-- any `Gone` answers a trim; a fence starts the sending over in the newer epoch
unfoldable pub trim_feed : Layout → Trims → ℕ → Reply → ℕ → TrimTurn
trim_feed p t u (IsGone b) next = met_gone b (trims_left t.below (without_wait u t.waits) next)
trim_feed p t u (IsFenced e) next = learns_if (nat_lt p.epoch e) t next
trim_feed p t u _ next = passes next t

-- Copies.

pub data CopyWork : Type 0 where
  Sealing : (rid : ℕ) → CopyWork  -- the spare, at the client's epoch
  Reading : (job : CellJob) → CopyWork  -- a cell of the stripe
  Storing : (rid pos : ℕ) → (cell : Cell) → CopyWork  -- it, in the spare
  Trimming : (rid below : ℕ) → CopyWork  -- the spare, as the stripe was
  Looking : (rid : ℕ) → CopyWork  -- whether the spare has all

pub record Copying : Type 0 where
  pub unit : ℕ
  pub range : ℕ
  pub stripe : ℕ
  pub work : CopyWork

pub data CopyEnd : Type 0 where
  Whole : CopyEnd

abbrev pub CopyTurn : Type 0
CopyTurn = Turn Copying CopyEnd

-- whether a unit has every position of a stripe
abbrev pub has_stripe : ℕ → Layout → ℕ → ℕ → Msg
has_stripe e p r s = msg.Has e ((range_at p.ranges r).lo + s) (range_end p r) (length (range_at p.ranges r).stripes)

unfoldable pub copy_work_asks : Layout → Copying → CopyWork → List Out
copy_work_asks p c (Sealing r) = out (unit_id c.unit) r (msg.Seal p.epoch) ∷ []
copy_work_asks p c (Reading j) = cell_asks j
copy_work_asks p c (Storing r pos x) = out (unit_id c.unit) r (msg.Copy p.epoch pos x) ∷ []
copy_work_asks p c (Trimming r b) = out (unit_id c.unit) r (msg.Trim p.epoch b) ∷ []
copy_work_asks p c (Looking r) = out (unit_id c.unit) r (has_stripe p.epoch p c.range c.stripe) ∷ []

abbrev pub copy_asks : Layout → Copying → List Out
copy_asks p c = copy_work_asks p c c.work

abbrev pub copies : Copying → CopyWork → Copying
copies c w = record c { work = w }

unfoldable pub copy_start : ℕ → ℕ → ℕ → ℕ → CopyTurn
copy_start u r s next = draws next (record { unit = u; range = r; stripe = s; work = Sealing next })

abbrev pub read_begun : Copying → Next CellJob CellEnd → ℕ → CopyTurn
read_begun c (Goes j) next = turn next (Goes (copies c (Reading j)))
read_begun c _ next = passes next c

abbrev pub read_turn : Copying → CellTurn → CopyTurn
read_turn c t = read_begun c t.to t.next

-- the stripe's next position at or past this one, or the look at the end
abbrev pub copy_from : Layout → Copying → ℕ → ℕ → Bool → CopyTurn
copy_from p c pos next true = read_turn c (get_cell (place_in p pos) next)
copy_from p c pos next false = draws next (copies c (Looking next))

abbrev pub copy_at : Layout → Copying → ℕ → ℕ → CopyTurn
copy_at p c pos next = copy_from p c pos next (nat_lt pos (range_end p c.range))

abbrev pub copies_past : Layout → Copying → ℕ → ℕ → CopyTurn
copies_past p c pos next = copy_at p c (next_in_stripe (range_at p.ranges c.range) c.stripe pos) next

abbrev pub read_end : Layout → Copying → ℕ → CellEnd → ℕ → CopyTurn
read_end p c pos (Done x) next = draws next (copies c (Storing next pos x))
read_end p c pos (Gone b) next = met_gone b (draws next (copies c (Trimming next b)))
read_end p c pos (Fenced u e) next = learns next c
read_end p c pos _ next = passes next c

abbrev pub read_next : Layout → Copying → ℕ → Next CellJob CellEnd → ℕ → CopyTurn
read_next p c pos (Goes j) next = turn next (Goes (copies c (Reading j)))
read_next p c pos (Learns j) next = learns next c
read_next p c pos (Ends e) next = read_end p c pos e next

abbrev pub read_of : Layout → Copying → CellJob → CellTurn → CopyTurn
read_of p c j t = read_next p c j.place.pos t.to t.next

-- the spare holds an equal cell
abbrev pub stored_if : Layout → Copying → ℕ → ℕ → Bool → CopyTurn
stored_if p c pos next true = copies_past p c (pos + 1) next
stored_if p c pos next false = passes next c

abbrev pub skipped_if : Layout → Copying → ℕ → ℕ → Bool → CopyTurn
skipped_if p c b next true = met_gone b (copies_past p c b next)
skipped_if p c b next false = passes next c

abbrev pub sealed_if : Layout → Copying → ℕ → Bool → CopyTurn
sealed_if p c next true = copies_past p c 0 next
sealed_if p c next false = passes next c

unfoldable pub copy_feed : Layout → Copying → CopyWork → ℕ → Reply → ℕ → CopyTurn
copy_feed p c (Reading j) u x next = read_of p c j (cell_feed j u x next)
copy_feed p c w u (IsFenced e) next = learns_if (nat_lt p.epoch e) c next
copy_feed p c (Sealing r) u (IsSealed e h) next = sealed_if p c next (e == p.epoch)
copy_feed p c (Storing r pos x) u IsHeld next = copies_past p c (pos + 1) next
copy_feed p c (Storing r pos x) u (IsTaken y) next = stored_if p c pos next (cell_eq x y)
copy_feed p c (Storing r pos x) u (IsGone b) next = skipped_if p c b next (nat_lt pos b)
copy_feed p c (Trimming r b) u (IsGone d) next = met_gone d (copies_past p c b next)
copy_feed p c (Looking r) u IsWhole next = ends next Whole
copy_feed p c (Looking r) u (IsMissing pos) next = copy_at p c pos next
copy_feed p c w u _ next = passes next c
