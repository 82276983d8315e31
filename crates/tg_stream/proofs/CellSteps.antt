-- What the steps of a cell's machine send, which numbers they draw, and where they end.
use Rattle.std.proofs.Common.{◌≡◌, ℕ, Bool, true, false, ◌&&◌, if◌then◌else◌, [], refl, arith}
use Rattle.tg_base.specs.declared.ids.NodeId.{NodeId}
use Rattle.tg_base.specs.declared.msg.Msg.{Msg}
use Rattle.tg_protocol.specs.Requests.{Next, Goes, Learns, Ends, awaits}
use Rattle.tg_protocol.specs.Replies.{Reply, reply, IsHeld, IsTaken, IsUnwritten, IsMissing, IsWhole, IsOther}
use Rattle.tg_protocol.specs.Cells.{Place, CellJob, CellWork, CellEnd, cell_asks, works, cell_feed, work_feed, fill_cell}
use Rattle.tg_chain.specs.Turns.{fed, fed_if, needs_memory}
use Rattle.tg_stream.specs.Walks.{has_cell}
use Rattle.tg_stream.specs.Laws.{reads_cell}

work_besides : (a : Place) (w : CellWork) (u : ℕ) (x : Reply) (n : ℕ) → (cell_feed (works a w) u x n).besides ≡ []
unfolding cell_feed work_feed fill_cell
work_besides a w u x n = grind arith

work_over : (a : Place) (w : CellWork) (u : ℕ) (x : Reply) (n : ℕ) (e : CellEnd) → (cell_feed (works a w) u x n).to ≡ Ends e → (cell_feed (works a w) u x n).next ≡ n
unfolding cell_feed work_feed fill_cell
work_over a w u x n e h = grind arith

work_place : (a : Place) (w : CellWork) (u : ℕ) (x : Reply) (n : ℕ) (k : CellJob) → (cell_feed (works a w) u x n).to ≡ Goes k → k.place ≡ a
unfolding cell_feed work_feed fill_cell
work_place a w u x n k h = grind arith

if_besides : (b : Bool) (j : CellJob) (u : ℕ) (m : Msg) (n : ℕ) → (fed_if b j u m n).besides ≡ []
if_besides true j u m n = work_besides j.place j.work u (reply m) n
if_besides false j u m n = refl

if_over : (b : Bool) (j : CellJob) (u : ℕ) (m : Msg) (n : ℕ) (e : CellEnd) → (fed_if b j u m n).to ≡ Ends e → (fed_if b j u m n).next ≡ n
if_over true j u m n e h = work_over j.place j.work u (reply m) n e h
if_over false j u m n e h = refl

if_place : (b : Bool) (j : CellJob) (u : ℕ) (m : Msg) (n : ℕ) (k : CellJob) → (fed_if b j u m n).to ≡ Goes k → k.place ≡ j.place
if_place true j u m n k h = work_place j.place j.work u (reply m) n k h
if_place false j u m n k h = cc

-- the cell's machine sends nothing besides its requests
pub fed_besides : (j : CellJob) (from : NodeId) (rid : ℕ) (m : Msg) (n : ℕ) → (fed j from rid m n).besides ≡ []
fed_besides j from rid m n = if_besides (awaits (cell_asks j) from rid) j from.num m n

-- draws no number where it ends
pub fed_over : (j : CellJob) (from : NodeId) (rid : ℕ) (m : Msg) (n : ℕ) (e : CellEnd) → (fed j from rid m n).to ≡ Ends e → (fed j from rid m n).next ≡ n
fed_over j from rid m n e h = if_over (awaits (cell_asks j) from rid) j from.num m n e h

-- and stays at its position
pub fed_place : (j : CellJob) (from : NodeId) (rid : ℕ) (m : Msg) (n : ℕ) (k : CellJob) → (fed j from rid m n).to ≡ Goes k → k.place ≡ j.place
fed_place j from rid m n k h = if_place (awaits (cell_asks j) from rid) j from.num m n k h

pub same_job : (j k : CellJob) → ◌≡◌ {A = Next CellJob CellEnd} (Goes j) (Goes k) → j ≡ k
same_job j k e = cc

-- ---- ends without memory

-- answers that show no cell
abbrev is_quiet : Reply → Bool
is_quiet IsHeld = false
is_quiet (IsTaken c) = false
is_quiet IsUnwritten = false
is_quiet (IsMissing p) = false
is_quiet IsWhole = false
is_quiet _ = true

near_quiet : (b : Bool) (r : Reply) → is_quiet r ≡ true → is_quiet (if b then IsOther else r) ≡ true
near_quiet true r q = refl
near_quiet false r q = q

reply_quiet : (m : Msg) → needs_memory m ≡ false → is_quiet (reply m) ≡ true
unfolding reply
reply_quiet m e = grind (arith, near_quiet)

work_quiet : (a : Place) (w : CellWork) (u : ℕ) (x : Reply) (n : ℕ) (e : CellEnd) → is_quiet x ≡ true → (cell_feed (works a w) u x n).to ≡ Ends e → has_cell e ≡ false
unfolding cell_feed work_feed fill_cell
work_quiet a w u x n e q h = grind arith

if_quiet : (b : Bool) (j : CellJob) (u : ℕ) (m : Msg) (n : ℕ) (e : CellEnd) → (b && needs_memory m) ≡ false → (fed_if b j u m n).to ≡ Ends e → has_cell e ≡ false
if_quiet true j u m n e q h = work_quiet j.place j.work u (reply m) n e (reply_quiet m q) h
if_quiet false j u m n e q h = absurd cc

-- a message that needs no memory ends it with no cell
pub fed_quiet : (j : CellJob) (from : NodeId) (rid : ℕ) (m : Msg) (n : ℕ) (e : CellEnd) → (awaits (cell_asks j) from rid && needs_memory m) ≡ false →
    (fed j from rid m n).to ≡ Ends e → has_cell e ≡ false
fed_quiet j from rid m n e q h = if_quiet (awaits (cell_asks j) from rid) j from.num m n e q h

-- ---- reads

work_reads : (a : Place) (w : CellWork) (u : ℕ) (x : Reply) (n : ℕ) (k : CellJob) → reads_cell w ≡ true → (cell_feed (works a w) u x n).to ≡ Goes k → reads_cell k.work ≡ true
unfolding cell_feed work_feed fill_cell
work_reads a w u x n k r h = grind arith

if_reads : (b : Bool) (j : CellJob) (u : ℕ) (m : Msg) (n : ℕ) (k : CellJob) → reads_cell j.work ≡ true → (fed_if b j u m n).to ≡ Goes k → reads_cell k.work ≡ true
if_reads true j u m n k r h = work_reads j.place j.work u (reply m) n k r h
if_reads false j u m n k r h = cc

-- a read stays a read
pub fed_reads : (j : CellJob) (from : NodeId) (rid : ℕ) (m : Msg) (n : ℕ) (k : CellJob) → reads_cell j.work ≡ true → (fed j from rid m n).to ≡ Goes k → reads_cell k.work ≡ true
fed_reads j from rid m n k r h = if_reads (awaits (cell_asks j) from rid) j from.num m n k r h

-- ---- layouts

work_learns : (a : Place) (w : CellWork) (u : ℕ) (x : Reply) (n : ℕ) (k : CellJob) → (cell_feed (works a w) u x n).to ≡ Learns k → ⊥
unfolding cell_feed work_feed fill_cell
work_learns a w u x n k h = grind arith

if_learns : (b : Bool) (j : CellJob) (u : ℕ) (m : Msg) (n : ℕ) (k : CellJob) → (fed_if b j u m n).to ≡ Learns k → ⊥
if_learns true j u m n k h = work_learns j.place j.work u (reply m) n k h
if_learns false j u m n k h = cc

-- the cell's machine never goes on in a newer layout
pub fed_learns : (j : CellJob) (from : NodeId) (rid : ℕ) (m : Msg) (n : ℕ) (k : CellJob) → (fed j from rid m n).to ≡ Learns k → ⊥
fed_learns j from rid m n k h = if_learns (awaits (cell_asks j) from rid) j from.num m n k h
