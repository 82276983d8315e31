-- A unit keeps its cells, and its epoch doesn't fall.
use Rattle.std.proofs.Common.{◌≡◌, ℕ, ◌<◌, ◌≤◌, List, [], ◌∷◌, cond, eqb, refl, arith, Some}
use Rattle.std.specs.Ordering.{nat_cmp}
use Rattle.std.specs.BTreeMap.{insert_entry}
use Rattle.tg_base.specs.declared.cell.Cell.{Cell}
use Rattle.tg_base.specs.declared.msg.Msg.{Msg}
use Rattle.tg_base.specs.declared.msg.Msg.TheVariants as msg
use Rattle.tg_protocol.specs.Words.{cell_at, with_cell, cells_from}
use Rattle.tg_protocol.specs.Units.{UnitState, UnitAsk, says, unit_ask, unit_step, on_ask}
use Rattle.tg_law_layouts.specs.Steps.Runs.{unit_after, epoch_of}
use Rattle.tg_law_layouts.specs.Steps.Laws.{CellsStay, SealsFence}

-- a cell stored at p, read anywhere
stored_more : (e : ℕ × Cell) (es : List (ℕ × Cell)) (k : ℕ) (v : Cell) (q : ℕ) → cell_at (insert_entry nat_cmp es k v) q ≡ cond (eqb q k) (Some v) (cell_at es q)
    → cell_at (insert_entry nat_cmp (e ∷ es) k v) q ≡ cond (eqb q k) (Some v) (cell_at (e ∷ es) q)
stored_more e es k v q ih = grind arith

pub cell_stored : (es : List (ℕ × Cell)) (k : ℕ) (v : Cell) (q : ℕ) → cell_at (with_cell es k v) q ≡ cond (eqb q k) (Some v) (cell_at es q)
cell_stored [] k v q = grind arith
cell_stored (e ∷ es) k v q = stored_more e es k v q (cell_stored es k v q)

-- a trim leaves what stands at or past it
kept_more : (e : ℕ × Cell) (es : List (ℕ × Cell)) (low q : ℕ) → low ≤ q → cell_at (cells_from low es) q ≡ cell_at es q
    → cell_at (cells_from low (e ∷ es)) q ≡ cell_at (e ∷ es) q
kept_more e es low q le ih = grind arith

pub cell_kept : (es : List (ℕ × Cell)) (low q : ℕ) → low ≤ q → cell_at (cells_from low es) q ≡ cell_at es q
cell_kept [] low q le = refl
cell_kept (e ∷ es) low q le = kept_more e es low q le (cell_kept es low q le)

pub cell_stays : (s : UnitState) (a : UnitAsk) (p : ℕ) (c : Cell) → cell_at s.cells p ≡ Some c → (on_ask s a).now.low ≤ p → cell_at (on_ask s a).now.cells p ≡ Some c
unfolding on_ask
cell_stays s a p c h le = grind (arith, cell_stored, cell_kept)

pub low_rises : (s : UnitState) (a : UnitAsk) → s.low ≤ (on_ask s a).now.low
unfolding on_ask
low_rises s a = grind arith

pub epoch_rises : (s : UnitState) (a : UnitAsk) → s.epoch ≤ (on_ask s a).now.epoch
unfolding on_ask
epoch_rises s a = grind arith

low_after : (ms : List Msg) (s : UnitState) → s.low ≤ (unit_after s ms).low
unfolding unit_after unit_step
low_after [] s = omega arith
low_after (m ∷ ms) s = let first = low_rises s (unit_ask m) in let rest = low_after ms (on_ask s (unit_ask m)).now in omega (arith, first, rest)

epoch_after : (ms : List Msg) (s : UnitState) → s.epoch ≤ (unit_after s ms).epoch
unfolding unit_after unit_step
epoch_after [] s = omega arith
epoch_after (m ∷ ms) s = let first = epoch_rises s (unit_ask m) in let rest = epoch_after ms (on_ask s (unit_ask m)).now in omega (arith, first, rest)

stays_after : (ms : List Msg) (s : UnitState) (p : ℕ) (c : Cell) → cell_at s.cells p ≡ Some c → (unit_after s ms).low ≤ p → cell_at (unit_after s ms).cells p ≡ Some c
unfolding unit_after unit_step
stays_after [] s p c h le = h
stays_after (m ∷ ms) s p c h le =
    let rest = low_after ms (on_ask s (unit_ask m)).now in
    stays_after ms (on_ask s (unit_ask m)).now p c (cell_stays s (unit_ask m) p c h (omega (arith, rest, le))) le

pub cells_stay : CellsStay
cells_stay s ms p c h le = stays_after ms s p c h le

fenced : (s : UnitState) (a : UnitAsk) (e : ℕ) → epoch_of a ≡ Some e → e < s.epoch → on_ask s a ≡ says s (msg.Fenced s.epoch)
unfolding on_ask
fenced s a e is less = grind arith

fenced_step : (s : UnitState) (m : Msg) (e : ℕ) → epoch_of (unit_ask m) ≡ Some e → e < s.epoch → unit_step s m ≡ says s (msg.Fenced s.epoch)
unfolding unit_step
fenced_step s m e is less = fenced s (unit_ask m) e is less

pub seals_fence : SealsFence
seals_fence s ms m e is less = let rest = epoch_after ms s in fenced_step (unit_after s ms) m e is (omega (arith, rest, less))
