-- What the read of a cell keeps from step to step.
use Rattle.std.proofs.Common.{◌≡◌, ℕ, ◌+◌, ◌<◌, Bool, true, false, nat_lt, length, refl, arith}
use Rattle.tg_base.specs.declared.cell.Cell.{Cell}
use Rattle.tg_base.specs.declared.cell.Cell.TheVariants.{Junk}
use Rattle.tg_base.specs.declared.ids.NodeId.{NodeId}
use Rattle.tg_base.specs.declared.msg.Msg.{Msg}
use Rattle.tg_protocol.specs.Words.{cell_eq}
use Rattle.tg_protocol.specs.Requests.{Next, Goes, Learns, Ends, awaits}
use Rattle.tg_protocol.specs.Replies.{Reply, IsHeld, IsTaken, IsUnwritten, IsGone, IsFenced, reply}
use Rattle.tg_protocol.specs.Cells.{Place, CellJob, CellWork, Puts, Gets, Fills, Copies, Probes, CellEnd, Done, Seen, Lost, Fenced, Gone, works, copy_on, copy_if_same, end_if, cell_feed, work_feed, fill_cell, cell_asks}
use Rattle.tg_chain.specs.Turns.{fed, fed_if}
use Rattle.tg_copy.specs.Laws.{is_get}

-- it goes on at the same units
abbrev pub GetNext : Place → Next CellJob CellEnd → Type 0
GetNext a (Goes k) = (k.place ≡ a) × (is_get k.work ≡ true)
GetNext a (Learns k) = ⊥
GetNext a (Ends Seen) = ⊥
GetNext a (Ends (Lost c)) = ⊥
GetNext a (Ends e) = Unit {0}

copy_on_kept : (b : Bool) (a : Place) (c : Cell) (i n : ℕ) → GetNext a (copy_on a c i n b).to
copy_on_kept true a c i n = (refl, refl)
copy_on_kept false a c i n = tt

end_kept : (b : Bool) (a : Place) (w : CellWork) (n : ℕ) (e : CellEnd) → is_get w ≡ true → GetNext a (Ends e) → GetNext a (end_if b (works a w) n e).to
end_kept true a w n e f h = h
end_kept false a w n e f h = (refl, f)

copy_same_kept : (b : Bool) (a : Place) (r : ℕ) (c : Cell) (i n : ℕ) → GetNext a (copy_if_same (works a (Copies r c i)) c i n b).to
copy_same_kept true a r c i n = copy_on_kept (nat_lt (i + 1) (length a.chain)) a c (i + 1) n
copy_same_kept false a r c i n = (refl, refl)

gets_kept : (a : Place) (r u : ℕ) (x : Reply) (n : ℕ) → GetNext a (cell_feed (works a (Gets r)) u x n).to
unfolding cell_feed work_feed fill_cell
gets_kept a r u (IsTaken c) n = tt
gets_kept a r u IsUnwritten n = (refl, refl)
gets_kept a r u (IsGone b) n = end_kept (nat_lt a.pos b) a (Gets r) n (Gone b) refl tt
gets_kept a r u (IsFenced e) n = end_kept (nat_lt a.epoch e) a (Gets r) n (Fenced u e) refl tt
gets_kept a r u _ n = (refl, refl)

fills_kept : (a : Place) (r u : ℕ) (x : Reply) (n : ℕ) → GetNext a (cell_feed (works a (Fills r)) u x n).to
unfolding cell_feed work_feed
fills_kept a r u IsHeld n = copy_on_kept (nat_lt 1 (length a.chain)) a Junk 1 n
fills_kept a r u (IsTaken c) n = copy_on_kept (nat_lt 1 (length a.chain)) a c 1 n
fills_kept a r u (IsGone b) n = end_kept (nat_lt a.pos b) a (Fills r) n (Gone b) refl tt
fills_kept a r u (IsFenced e) n = end_kept (nat_lt a.epoch e) a (Fills r) n (Fenced u e) refl tt
fills_kept a r u _ n = (refl, refl)

copies_kept : (a : Place) (r : ℕ) (c : Cell) (i u : ℕ) (x : Reply) (n : ℕ) → GetNext a (cell_feed (works a (Copies r c i)) u x n).to
unfolding cell_feed work_feed
copies_kept a r c i u IsHeld n = copy_on_kept (nat_lt (i + 1) (length a.chain)) a c (i + 1) n
copies_kept a r c i u (IsTaken y) n = copy_same_kept (cell_eq y c) a r c i n
copies_kept a r c i u (IsGone b) n = end_kept (nat_lt a.pos b) a (Copies r c i) n (Gone b) refl tt
copies_kept a r c i u (IsFenced e) n = end_kept (nat_lt a.epoch e) a (Copies r c i) n (Fenced u e) refl tt
copies_kept a r c i u _ n = (refl, refl)

get_kept : (a : Place) (w : CellWork) (u : ℕ) (x : Reply) (n : ℕ) → is_get w ≡ true → GetNext a (cell_feed (works a w) u x n).to
get_kept a (Puts r d i) u x n h = absurd cc
get_kept a (Gets r) u x n h = gets_kept a r u x n
get_kept a (Fills r) u x n h = fills_kept a r u x n
get_kept a (Copies r c i) u x n h = copies_kept a r c i u x n
get_kept a (Probes ws) u x n h = absurd cc

get_kept_if : (b : Bool) (j : CellJob) (u : ℕ) (m : Msg) (n : ℕ) → is_get j.work ≡ true → GetNext j.place (fed_if b j u m n).to
get_kept_if true j u m n h = get_kept j.place j.work u (reply m) n h
get_kept_if false j u m n h = (refl, h)

pub get_fed_kept : (j : CellJob) (from : NodeId) (rid : ℕ) (m : Msg) (n : ℕ) → is_get j.work ≡ true → GetNext j.place (fed j from rid m n).to
get_fed_kept j from rid m n h = get_kept_if (awaits (cell_asks j) from rid) j from.num m n h

-- whatever it does, its position stays
work_stays : (a : Place) (w : CellWork) (u : ℕ) (x : Reply) (n : ℕ) (k : CellJob) → (cell_feed (works a w) u x n).to ≡ Goes k → k.place ≡ a
unfolding cell_feed work_feed fill_cell
work_stays a w u x n k h = grind arith

stays_if : (b : Bool) (j : CellJob) (u : ℕ) (m : Msg) (n : ℕ) (k : CellJob) → (fed_if b j u m n).to ≡ Goes k → k.place ≡ j.place
stays_if true j u m n k h = work_stays j.place j.work u (reply m) n k h
stays_if false j u m n k h = cc

pub fed_stays : (j : CellJob) (from : NodeId) (rid : ℕ) (m : Msg) (n : ℕ) (k : CellJob) → (fed j from rid m n).to ≡ Goes k → k.place ≡ j.place
fed_stays j from rid m n k h = stays_if (awaits (cell_asks j) from rid) j from.num m n k h
