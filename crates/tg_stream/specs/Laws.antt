-- What the layer above rests on: which answers end a walk, which are passed by, which positions it reads, and how
-- many requests it still sends.
use Rattle.std.specs.Prelude.{◌≡◌, ℕ, zero, suc, ◌+◌, ◌-◌, ◌<◌, ◌≤◌, Bool, true, false, not, ◌||◌, nat_lt, length, List, [], ◌∷◌, Option, Some, None, is_some, if◌then◌else◌}
use Rattle.std.specs.List.{list_all}
use Rattle.tg_base.specs.Layouts.{Layout}
use Rattle.tg_base.specs.declared.cell.Cell.{Cell}
use Rattle.tg_base.specs.declared.ids.NodeId.{NodeId}
use Rattle.tg_base.specs.declared.ids.Oid.{Oid}
use Rattle.tg_base.specs.declared.msg.Msg.{Msg}
use Rattle.tg_base.specs.declared.packet.Packet.{Packet}
use Rattle.tg_protocol.specs.Words.{cell_at}
use Rattle.tg_protocol.specs.Layouts.{chain_of}
use Rattle.tg_protocol.specs.Requests.{Next, Goes, Learns, Ends, turn, awaits}
use Rattle.tg_protocol.specs.Replies.{Reply, IsGone, IsFenced, reply}
use Rattle.tg_protocol.specs.Cells.{CellJob, CellWork, Gets, Fills, Copies, cell_asks}
use Rattle.tg_protocol.specs.Walking.{Trail, Walk, Members, WalkTurn, with_job, next_visit, walk_start, walk_again}
use Rattle.tg_chain.specs.Laws.{settled_by, is_last, passed_by, left}
use Rattle.tg_stream.specs.Turns.{by_walk}
use Rattle.tg_stream.specs.Walks.{walk_fed}

-- Ends.

-- what a unit has answered where a walk ends so: the last cell, settled by the last unit that was to be asked, or a
-- trim past the position
abbrev pub EndsBy : CellJob → Reply → Option ℕ → Type 0
EndsBy j x None = (is_some (settled_by j.work x) ≡ true) × (is_last j.place j.work ≡ true)
EndsBy j x (Some b) = (x ≡ IsGone b) × (j.place.pos < b)

-- a walk ends only on such an answer, from a unit that was asked, with the number of that request
abbrev pub EndsByAnswers : Type 0
EndsByAnswers = (p : Layout) (w : Walk) (j : CellJob) (from : NodeId) (rid : ℕ) (m : Msg) (next : ℕ) (e : Members) →
    (walk_fed p (with_job w j) from rid m next).to ≡ Ends e → (awaits (cell_asks j) from rid ≡ true) × EndsBy j (reply m) e.gone

-- a unit that stands at a later epoch
abbrev pub Fences : CellJob → Reply → Type 0
Fences j (IsFenced e) = j.place.epoch < e
Fences j x = true ≡ false

-- and learns a newer layout only on a fence of a later epoch, from a unit that was asked; nothing else has changed
abbrev pub LearnsByFences : Type 0
LearnsByFences = (p : Layout) (w : Walk) (j : CellJob) (from : NodeId) (rid : ℕ) (m : Msg) (next : ℕ) (v : Walk) →
    (walk_fed p (with_job w j) from rid m next).to ≡ Learns v → (awaits (cell_asks j) from rid ≡ true) × Fences j (reply m) × (v ≡ with_job w j)

-- What is passed by.

-- the work of a read: the last unit is asked, or a hole is filled
abbrev pub reads_cell : CellWork → Bool
reads_cell (Gets r) = true
reads_cell (Fills r) = true
reads_cell (Copies r c i) = true
reads_cell w = false

-- a walk goes on without sending anything only where the message isn't awaited or is passed by
abbrev pub WaitsForAnswers : Type 0
WaitsForAnswers = (p : Layout) (w : Walk) (j : CellJob) (from : NodeId) (rid : ℕ) (m : Msg) (next : ℕ) (v : Walk) →
    reads_cell j.work ≡ true → (walk_fed p (with_job w j) from rid m next).to ≡ Goes v → (by_walk next (walk_fed p (with_job w j) from rid m next)).outs ≡ [] →
    (not (awaits (cell_asks j) from rid) || passed_by j.place j.work (reply m)) ≡ true

-- What is read.

abbrev pub all_below : ℕ → List ℕ → Bool
all_below bound ps = list_all (λ q. nat_lt q bound) ps

-- nothing to which a trail may lead is at or past this bound
pub record IsBelow (bound : ℕ) (t : Trail) : Type 0 where
  pub pointers : all_below bound t.pointers ≡ true
  pub last : t.last ≤ bound

-- a walk reads the position that comes next, which isn't below `lo`, and whose cell isn't known
pub record Reads (bound : ℕ) (w : Walk) (j : CellJob) : Type 0 where
  pub next : next_visit w ≡ Some j.place.pos
  pub from : w.lo ≤ j.place.pos
  pub below : j.place.pos < bound
  pub unknown : cell_at w.cells j.place.pos ≡ None
  pub trail : IsBelow bound w.trail
  pub work : reads_cell j.work ≡ true

abbrev pub ReadsBy : ℕ → Walk → Option CellJob → Type 0
ReadsBy bound w None = true ≡ false
ReadsBy bound w (Some j) = Reads bound w j

abbrev pub IsReading : ℕ → Walk → Type 0
IsReading bound w = ReadsBy bound w w.job

abbrev pub ThenReads : ℕ → Next Walk Members → Type 0
ThenReads bound (Goes w) = IsReading bound w
ThenReads bound (Learns w) = IsReading bound w
ThenReads bound (Ends e) = Unit {0}

-- a walk that began below a bound asks only for positions from `lo` on and below the bound whose cells it doesn't
-- know, whatever comes
pub record AsksUnknown : Type 0 where
  pub starts : (p : Layout) (o : Oid) (lasts : List ℕ) (lo : ℕ) (cells : List (ℕ × Cell)) (next bound : ℕ) →
      all_below bound lasts ≡ true → ThenReads bound (walk_start p o lasts lo cells next).to
  pub feeds : (p : Layout) (w : Walk) (from : NodeId) (rid : ℕ) (m : Msg) (next bound : ℕ) →
      IsReading bound w → ThenReads bound (walk_fed p w from rid m next).to
  pub resumes : (p : Layout) (w : Walk) (next bound : ℕ) →
      IsReading bound w → ThenReads bound (walk_again p w next).to

-- Requests to come, where no chain has more than a number of units.

-- so much for each of the n positions from lo on whose cell isn't known
abbrev pub for_unknown : ℕ → List (ℕ × Cell) → ℕ → ℕ → ℕ
for_unknown cost cells lo zero = 0
for_unknown cost cells lo (suc n) = for_unknown cost cells lo n + (if is_some (cell_at cells (lo + n)) then 0 else cost)

-- a read asks the last unit, and where there is a hole each unit
abbrev pub reads_cost : ℕ → ℕ → List (ℕ × Cell) → ℕ → ℕ
reads_cost most bound cells lo = for_unknown (most + 1) cells lo (bound - lo)

-- besides the read in hand each other position costs one
abbrev pub left_by : ℕ → ℕ → Walk → Option CellJob → ℕ
left_by most bound w None = 0
left_by most bound w (Some j) = left j + (reads_cost most bound w.cells w.lo - (most + 1))

abbrev pub left_in : ℕ → ℕ → Walk → ℕ
left_in most bound w = left_by most bound w w.job

-- requests in a newer layout are counted anew
abbrev pub left_then : ℕ → ℕ → Next Walk Members → ℕ
left_then most bound (Goes w) = left_in most bound w
left_then most bound (Learns w) = 0
left_then most bound (Ends e) = 0

pub record HasChains (p : Layout) (most : ℕ) : Type 0 where
  pub some : 1 ≤ most
  pub most_units : (q : ℕ) → length (chain_of p q) ≤ most

-- a walk begins with no more requests than these, likewise in a newer layout
pub record StartsAreFew : Type 0 where
  pub starts : (p : Layout) (o : Oid) (lasts : List ℕ) (lo : ℕ) (cells : List (ℕ × Cell)) (next bound most : ℕ) →
      HasChains p most → all_below bound lasts ≡ true →
      (walk_start p o lasts lo cells next).next + left_then most bound (walk_start p o lasts lo cells next).to ≤ next + reads_cost most bound cells lo
  pub resumes : (p : Layout) (w : Walk) (next bound most : ℕ) → HasChains p most → IsReading bound w →
      (walk_again p w next).next + left_then most bound (walk_again p w next).to ≤ next + reads_cost most bound w.cells w.lo

-- a step draws no more numbers than its walk then has fewer requests to come
abbrev pub StepsAreFew : Type 0
StepsAreFew = (p : Layout) (w : Walk) (from : NodeId) (rid : ℕ) (m : Msg) (next bound most : ℕ) → HasChains p most → IsReading bound w →
    (walk_fed p w from rid m next).next + left_then most bound (walk_fed p w from rid m next).to ≤ next + left_in most bound w

-- what becomes of a walk after these messages, until it learns a newer layout
abbrev pub fed_next : Layout → Next Walk Members → Packet → ℕ → WalkTurn
fed_next p (Goes w) x next = walk_fed p w x.from x.rid x.msg next
fed_next p y x next = turn next y

unfoldable pub fed_all : Layout → Next Walk Members → List Packet → ℕ → WalkTurn
fed_all p y [] next = turn next y
fed_all p y (x ∷ xs) next = fed_all p (fed_next p y x next).to xs (fed_next p y x next).next

-- whatever messages come in a layout, a walk sends no more than these
abbrev pub RequestsAreFew : Type 0
RequestsAreFew = (p : Layout) (w : Walk) (xs : List Packet) (next bound most : ℕ) → HasChains p most → IsReading bound w →
    (fed_all p (Goes w) xs next).next ≤ next + left_in most bound w
