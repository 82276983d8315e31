-- The numbers of a cell's machine.
use Rattle.std.proofs.Common.{◌≡◌, ℕ, ◌+◌, Bool, true, false, List, [], ◌∷◌, length, arith}
use Rattle.tg_base.specs.declared.cell.Cell.{Cell}
use Rattle.tg_base.specs.declared.cell.Cell.TheVariants.{Junk}
use Rattle.tg_protocol.specs.Words.{unit_id}
use Rattle.tg_protocol.specs.Requests.{Waits, waits_for, without_wait, passes}
use Rattle.tg_protocol.specs.Replies.{Reply, IsHeld, IsTaken, IsUnwritten, IsGone, IsFenced, IsMissing, IsWhole}
use Rattle.tg_protocol.specs.Cells.{Place, CellJob, CellWork, Puts, Gets, Fills, Copies, Probes, CellEnd, Seen, works, work_asks, cell_asks, fill_cell, put_on, copy_on, end_if, copy_if_same, probe_on, work_feed, cell_feed}
use Rattle.tg_reconf.specs.Turns.{all_drawn}
use Rattle.tg_client_state.specs.Numbers.{all_from}
use Rattle.tg_client_state.proofs.Steps.{one_below, one_from, each_below, others_below, Plain, goes_plain, ends_plain}

-- What is asked first.

pub put_below : (a : Place) (d : List ℕ) (i n : ℕ) → all_drawn (n + 1) (cell_asks (works a (Puts n d i))) ≡ true
unfolding work_asks
put_below a d i n = one_below n

pub get_below : (a : Place) (n : ℕ) → all_drawn (n + 1) (cell_asks (works a (Gets n))) ≡ true
unfolding work_asks
get_below a n = one_below n

pub fill_below : (a : Place) (n : ℕ) → all_drawn (n + 1) (cell_asks (works a (Fills n))) ≡ true
unfolding work_asks
fill_below a n = one_below n

copy_below : (a : Place) (c : Cell) (i n : ℕ) → all_drawn (n + 1) (cell_asks (works a (Copies n c i))) ≡ true
unfolding work_asks
copy_below a c i n = one_below n

pub probe_below : (a : Place) (n : ℕ) → all_drawn (n + length a.chain) (cell_asks (works a (Probes (waits_for a.chain n)))) ≡ true
unfolding work_asks
probe_below a n = each_below unit_id _ a.chain n

pub get_from : (a : Place) (n : ℕ) → all_from n (cell_asks (works a (Gets n))) ≡ true
unfolding work_asks
get_from a n = one_from n

pub fill_from : (a : Place) (n : ℕ) → all_from n (cell_asks (works a (Fills n))) ≡ true
unfolding work_asks
fill_from a n = one_from n

-- Steps.

put_plain : (a : Place) (d : List ℕ) (i n : ℕ) (b : Bool) → Plain cell_asks n (put_on a d i n b)
put_plain a d i n true = goes_plain cell_asks n (n + 1) _ (omega arith) (put_below a d i n)
put_plain a d i n false = ends_plain cell_asks n n _ (omega arith)

copy_plain : (a : Place) (c : Cell) (i n : ℕ) (b : Bool) → Plain cell_asks n (copy_on a c i n b)
copy_plain a c i n true = goes_plain cell_asks n (n + 1) _ (omega arith) (copy_below a c i n)
copy_plain a c i n false = ends_plain cell_asks n n _ (omega arith)

fill_plain : (a : Place) (n : ℕ) → Plain cell_asks n (fill_cell a n)
unfolding fill_cell
fill_plain a n = goes_plain cell_asks n (n + 1) _ (omega arith) (fill_below a n)

stays : (j : CellJob) (n : ℕ) → all_drawn n (cell_asks j) ≡ true → Plain cell_asks n (passes {E = CellEnd} n j)
stays j n h = goes_plain cell_asks n n j (omega arith) h

end_plain : (b : Bool) (j : CellJob) (n : ℕ) (e : CellEnd) → all_drawn n (cell_asks j) ≡ true → Plain cell_asks n (end_if b j n e)
end_plain true j n e h = ends_plain cell_asks n n e (omega arith)
end_plain false j n e h = stays j n h

same_plain : (j : CellJob) (c : Cell) (i n : ℕ) (b : Bool) → all_drawn n (cell_asks j) ≡ true → Plain cell_asks n (copy_if_same j c i n b)
same_plain j c i n true h = copy_plain j.place c (i + 1) n _
same_plain j c i n false h = stays j n h

probe_plain : (a : Place) (ws : Waits) (n : ℕ) → all_drawn n (cell_asks (works a (Probes ws))) ≡ true → Plain cell_asks n (probe_on a ws n)
probe_plain a [] n h = ends_plain cell_asks n n Seen (omega arith)
probe_plain a (w ∷ ws) n h = goes_plain cell_asks n n _ (omega arith) h

others_asked : (a : Place) (u : ℕ) (ws : Waits) (n : ℕ) → all_drawn n (cell_asks (works a (Probes ws))) ≡ true → all_drawn n (cell_asks (works a (Probes (without_wait u ws)))) ≡ true
unfolding work_asks
others_asked a u ws n h = others_below unit_id _ u ws n h

work_plain : (a : Place) (w : CellWork) (u : ℕ) (x : Reply) (n : ℕ) → all_drawn n (cell_asks (works a w)) ≡ true → Plain cell_asks n (work_feed (works a w) w u x n)
unfolding work_feed
work_plain a (Puts r d i) u (IsFenced e) n h = end_plain _ _ n _ h
work_plain a (Puts r d i) u IsHeld n h = put_plain a d (i + 1) n _
work_plain a (Puts r d i) u (IsTaken c) n h = end_plain _ _ n _ h
work_plain a (Puts r d i) u (IsGone b) n h = end_plain _ _ n _ h
work_plain a (Puts r d i) u _ n h = stays _ n h
work_plain a (Gets r) u (IsFenced e) n h = end_plain _ _ n _ h
work_plain a (Gets r) u (IsTaken c) n h = ends_plain cell_asks n n _ (omega arith)
work_plain a (Gets r) u IsUnwritten n h = fill_plain a n
work_plain a (Gets r) u (IsGone b) n h = end_plain _ _ n _ h
work_plain a (Gets r) u _ n h = stays _ n h
work_plain a (Fills r) u (IsFenced e) n h = end_plain _ _ n _ h
work_plain a (Fills r) u IsHeld n h = copy_plain a Junk 1 n _
work_plain a (Fills r) u (IsTaken c) n h = copy_plain a c 1 n _
work_plain a (Fills r) u (IsGone b) n h = end_plain _ _ n _ h
work_plain a (Fills r) u _ n h = stays _ n h
work_plain a (Copies r c i) u (IsFenced e) n h = end_plain _ _ n _ h
work_plain a (Copies r c i) u IsHeld n h = copy_plain a c (i + 1) n _
work_plain a (Copies r c i) u (IsTaken x) n h = same_plain _ c i n _ h
work_plain a (Copies r c i) u (IsGone b) n h = end_plain _ _ n _ h
work_plain a (Copies r c i) u _ n h = stays _ n h
work_plain a (Probes ws) u (IsFenced e) n h = end_plain _ _ n _ h
work_plain a (Probes ws) u IsWhole n h = probe_plain a (without_wait u ws) n (others_asked a u ws n h)
work_plain a (Probes ws) u (IsMissing p) n h = probe_plain a (without_wait u ws) n (others_asked a u ws n h)
work_plain a (Probes ws) u _ n h = stays _ n h

pub cell_plain : (j : CellJob) (u : ℕ) (x : Reply) (n : ℕ) → all_drawn n (cell_asks j) ≡ true → Plain cell_asks n (cell_feed j u x n)
unfolding cell_feed
cell_plain j u x n h = work_plain j.place j.work u x n h
