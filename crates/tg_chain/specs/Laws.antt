-- What the layer above rests on: which answers end a machine, which are passed by, and how many requests it
-- still sends.
use Rattle.std.specs.Prelude.{◌≡◌, ℕ, ◌+◌, ◌-◌, ◌<◌, ◌≤◌, Bool, true, false, not, ◌&&◌, ◌||◌, ◌==◌, nat_le, nat_lt, Option, Some, None, List, [], ◌∷◌, length}
use Rattle.tg_base.specs.declared.cell.Cell.{Cell}
use Rattle.tg_base.specs.declared.cell.Cell.TheVariants.{Junk, Data}
use Rattle.tg_base.specs.declared.ids.NodeId.{NodeId}
use Rattle.tg_base.specs.declared.msg.Msg.{Msg}
use Rattle.tg_base.specs.declared.packet.Packet.{Packet}
use Rattle.tg_protocol.specs.Words.{cell_eq, where_true}
use Rattle.tg_protocol.specs.Requests.{Next, Goes, Learns, Ends, turn, awaits, without_wait}
use Rattle.tg_protocol.specs.Replies.{Reply, IsHeld, IsTaken, IsUnwritten, IsGone, IsFenced, IsMissing, IsWhole, IsLatest, reply}
use Rattle.tg_protocol.specs.Cells.{Place, CellJob, CellWork, Puts, Gets, Fills, Copies, Probes, CellEnd, CellTurn, Done, Seen, Lost, Fenced, Gone, cell_asks}
use Rattle.tg_base.specs.declared.turn.Stand.{Stand}
use Rattle.tg_chain.specs.declared.ends.LearnEnd.TheVariants.{Known}
use Rattle.tg_chain.specs.Turns.{fed, by_rules}
use Rattle.tg_chain.specs.Learns.{Learning, learn_feed, is_newer, tells_newer}

-- Ends.

-- the cell that an answer shows
abbrev pub settled_by : CellWork → Reply → Option Cell
settled_by (Puts r d i) IsHeld = Some (Data d)
settled_by (Gets r) (IsTaken c) = Some c
settled_by (Fills r) IsHeld = Some Junk
settled_by (Fills r) (IsTaken c) = Some c
settled_by (Copies r c i) IsHeld = Some c
settled_by (Copies r c i) (IsTaken x) = where_true (cell_eq x c) c
settled_by _ _ = None

-- no unit is left to be asked after this one
abbrev pub is_last : Place → CellWork → Bool
is_last a (Puts r d i) = nat_le (length a.chain) (i + 1)
is_last a (Gets r) = true
is_last a (Fills r) = nat_le (length a.chain) 1
is_last a (Copies r c i) = nat_le (length a.chain) (i + 1)
is_last a (Probes ws) = true

-- the last answer of a probe
abbrev pub Completes : CellWork → ℕ → Type 0
Completes (Probes ws) u = without_wait u ws ≡ []
Completes w u = true ≡ false

-- a unit that answers a probe in the epoch
abbrev pub is_seen : Reply → Bool
is_seen IsWhole = true
is_seen (IsMissing p) = true
is_seen x = false

-- the head refuses a page, with another cell
abbrev pub Loses : CellWork → Reply → Cell → Type 0
Loses (Puts r d i) x c = (i ≡ 0) × (x ≡ IsTaken c) × (cell_eq c (Data d) ≡ false)
Loses w x c = true ≡ false

-- what a unit has answered where a machine ends so
abbrev pub EndsBy : CellJob → ℕ → Reply → CellEnd → Type 0
EndsBy j u x (Done c) = (settled_by j.work x ≡ Some c) × (is_last j.place j.work ≡ true)
EndsBy j u x Seen = (is_seen x ≡ true) × Completes j.work u
EndsBy j u x (Lost c) = Loses j.work x c
EndsBy j u x (Fenced v e) = (v ≡ u) × (x ≡ IsFenced e) × (j.place.epoch < e)
EndsBy j u x (Gone b) = (x ≡ IsGone b) × (j.place.pos < b)

-- a machine ends only on such an answer, from a unit that was asked, with the number of that request
abbrev pub EndsByAnswers : Type 0
EndsByAnswers = (j : CellJob) (from : NodeId) (rid : ℕ) (m : Msg) (next : ℕ) (e : CellEnd) →
    (fed j from rid m next).to ≡ Ends e → (awaits (cell_asks j) from rid ≡ true) × EndsBy j from.num (reply m) e

-- What is passed by.

-- the answers by which a request is served
abbrev pub serves : CellWork → Reply → Bool
serves (Puts r d i) IsHeld = true
serves (Puts r d i) (IsTaken c) = (i == 0) && not (cell_eq c (Data d))
serves (Gets r) (IsTaken c) = true
serves (Gets r) IsUnwritten = true
serves (Fills r) IsHeld = true
serves (Fills r) (IsTaken c) = true
serves (Copies r c i) IsHeld = true
serves (Copies r c i) (IsTaken x) = cell_eq x c
serves (Probes ws) IsWhole = true
serves (Probes ws) (IsMissing p) = true
serves _ _ = false

-- whether the work has to do with trims
abbrev pub minds_trims : CellWork → Bool
minds_trims (Probes ws) = false
minds_trims w = true

-- a fence that isn't of a later epoch, a trim that isn't past the position, and what answers another request
abbrev pub passed_by : Place → CellWork → Reply → Bool
passed_by a w (IsFenced e) = nat_le e a.epoch
passed_by a w (IsGone b) = not (minds_trims w) || nat_le b a.pos
passed_by a w x = not (serves w x)

-- other units of a probe haven't answered yet
abbrev pub awaits_more : CellWork → ℕ → Reply → Bool
awaits_more (Probes ws) u x = serves (Probes ws) x && nat_lt 0 (length (without_wait u ws))
awaits_more w u x = false

-- a machine goes on without sending anything only where the message isn't awaited or is passed by, or where
-- answers of other units are awaited still
abbrev pub WaitsForAnswers : Type 0
WaitsForAnswers = (j : CellJob) (from : NodeId) (rid : ℕ) (m : Msg) (next : ℕ) (k : CellJob) →
    (fed j from rid m next).to ≡ Goes k → (by_rules cell_asks next (fed j from rid m next)).outs ≡ [] →
    (not (awaits (cell_asks j) from rid) || (passed_by j.place j.work (reply m) || awaits_more j.work from.num (reply m))) ≡ true

-- Requests to come.

-- how many requests are still sent until the end
abbrev pub left_in : Place → CellWork → ℕ
left_in a (Puts r d i) = length a.chain - 1 - i
left_in a (Gets r) = 1 + (length a.chain - 1)
left_in a (Fills r) = length a.chain - 1
left_in a (Copies r c i) = length a.chain - 1 - i
left_in a (Probes ws) = 0

abbrev pub left : CellJob → ℕ
left j = left_in j.place j.work

abbrev pub left_then : Next CellJob CellEnd → ℕ
left_then (Goes j) = left j
left_then (Learns j) = left j
left_then (Ends e) = 0

-- a step draws no more numbers than its machine then has fewer requests to come
abbrev pub StepsAreFew : Type 0
StepsAreFew = (j : CellJob) (from : NodeId) (rid : ℕ) (m : Msg) (next : ℕ) →
    (fed j from rid m next).next + left_then (fed j from rid m next).to ≤ next + left j

-- what becomes of a machine after these messages
abbrev pub fed_next : Next CellJob CellEnd → Packet → ℕ → CellTurn
fed_next (Goes j) p next = fed j p.from p.rid p.msg next
fed_next x p next = turn next x

unfoldable pub fed_all : Next CellJob CellEnd → List Packet → ℕ → CellTurn
fed_all x [] next = turn next x
fed_all x (p ∷ ps) next = fed_all (fed_next x p next).to ps (fed_next x p next).next

-- whatever messages come, a machine sends no more than these
abbrev pub RequestsAreFew : Type 0
RequestsAreFew = (j : CellJob) (ps : List Packet) (next : ℕ) → (fed_all (Goes j) ps next).next ≤ next + left j

-- Learning.

-- learning ends only with a layout that a layout server tells and whose epoch is greater
abbrev pub LearnsNewer : Type 0
LearnsNewer = (l : Learning) (from : NodeId) (m : Msg) (next : ℕ) (s : Stand) →
    (learn_feed l from m next).to ≡ Ends (Known s) →
    (reply m ≡ IsLatest s.proj) × (is_newer l from s.proj ≡ true) × (s.layouts ≡ l.stand.layouts)

-- it goes on only where the message tells no such layout, and then as before
abbrev pub LearnWaits : Type 0
LearnWaits = (l : Learning) (from : NodeId) (m : Msg) (next : ℕ) (k : Learning) →
    (learn_feed l from m next).to ≡ Goes k → (tells_newer l from (reply m) ≡ false) × (k ≡ l)

-- and it asks only as it starts
abbrev pub LearnAsksOnce : Type 0
LearnAsksOnce = (l : Learning) (from : NodeId) (m : Msg) (next : ℕ) → (learn_feed l from m next).next ≡ next
