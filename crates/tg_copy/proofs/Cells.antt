-- What the steps of a cell's machine send, and which numbers they draw.
use Rattle.std.proofs.Common.{◌≡◌, ℕ, Bool, true, false, [], refl, arith}
use Rattle.tg_base.specs.declared.ids.NodeId.{NodeId}
use Rattle.tg_base.specs.declared.msg.Msg.{Msg}
use Rattle.tg_protocol.specs.Requests.{Next, Goes, Ends, awaits}
use Rattle.tg_protocol.specs.Replies.{Reply, reply}
use Rattle.tg_protocol.specs.Cells.{Place, CellJob, CellWork, CellEnd, cell_asks, works, cell_feed, work_feed, fill_cell}
use Rattle.tg_chain.specs.Turns.{fed, fed_if}

work_besides : (a : Place) (w : CellWork) (u : ℕ) (x : Reply) (n : ℕ) → (cell_feed (works a w) u x n).besides ≡ []
unfolding cell_feed work_feed fill_cell
work_besides a w u x n = grind arith

work_over : (a : Place) (w : CellWork) (u : ℕ) (x : Reply) (n : ℕ) (e : CellEnd) → (cell_feed (works a w) u x n).to ≡ Ends e → (cell_feed (works a w) u x n).next ≡ n
unfolding cell_feed work_feed fill_cell
work_over a w u x n e h = grind arith

if_besides : (b : Bool) (j : CellJob) (u : ℕ) (m : Msg) (n : ℕ) → (fed_if b j u m n).besides ≡ []
if_besides true j u m n = work_besides j.place j.work u (reply m) n
if_besides false j u m n = refl

if_over : (b : Bool) (j : CellJob) (u : ℕ) (m : Msg) (n : ℕ) (e : CellEnd) → (fed_if b j u m n).to ≡ Ends e → (fed_if b j u m n).next ≡ n
if_over true j u m n e h = work_over j.place j.work u (reply m) n e h
if_over false j u m n e h = refl

-- the cell's machine sends nothing besides its requests
pub fed_besides : (j : CellJob) (from : NodeId) (rid : ℕ) (m : Msg) (n : ℕ) → (fed j from rid m n).besides ≡ []
fed_besides j from rid m n = if_besides (awaits (cell_asks j) from rid) j from.num m n

-- and draws no number where it ends
pub fed_over : (j : CellJob) (from : NodeId) (rid : ℕ) (m : Msg) (n : ℕ) (e : CellEnd) → (fed j from rid m n).to ≡ Ends e → (fed j from rid m n).next ≡ n
fed_over j from rid m n e h = if_over (awaits (cell_asks j) from rid) j from.num m n e h

pub same_job : (j k : CellJob) → ◌≡◌ {A = Next CellJob CellEnd} (Goes j) (Goes k) → j ≡ k
same_job j k e = cc
