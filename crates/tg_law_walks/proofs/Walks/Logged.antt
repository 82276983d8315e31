-- A cell that a log is read to have at a position stands in it there.
use Rattle.std.proofs.Common.{◌≡◌, ℕ, zero, suc, List, [], ◌∷◌, Bool, true, false, refl, sym, ap, ◌∙◌, inl, inr, arith, Option, Some, None, nat_cmp, cond}
use Rattle.std.specs.BTreeMap.{is_at}
use Rattle.tg_base.specs.Layouts.{Layout}
use Rattle.tg_base.specs.declared.cell.Cell.{Cell}
use Rattle.tg_kind.specs.Meaning.{Meaning}
use Rattle.tg_protocol.specs.Words.{cell_at, with_nums, or_else}
use Rattle.tg_protocol.specs.Layouts.{chain_of}
use Rattle.tg_protocol.specs.Units.{UnitState, new_unit}
use Rattle.tg_protocol.specs.Logs.{Log, unit_cells, if_all_hold, chain_cell, log_cell, positions, all_positions, cell_if, cells_of, log_of}
use Rattle.tg_protocol.specs.Worlds.{World, latest, log}
use Rattle.tg_law_walks.proofs.Walks.Members.{Has}
use Rattle.tg_law_walks.proofs.Walks.Positions.{nums_left, nums_right}
use Rattle.tg_law_walks.proofs.Walks.Cells.{cell_has}

none_here : {X : Type 0} (c : Cell) → None ≡ Some c → X
none_here c e = absurd (cc)

position_has : (cells : List (ℕ × Cell)) (p : ℕ) (c : Cell) → Has cells (p, c) → Has (positions cells) p
position_has [] p c i = absurd i
position_has (x ∷ cells) p c (inl e) = inl (ap (λ (y : ℕ × Cell). y.0) e)
position_has (x ∷ cells) p c (inr i) = inr (position_has cells p c i)

unit_has : (us : List UnitState) (u p : ℕ) (c : Cell) → cell_at (unit_cells us u) p ≡ Some c → Has (all_positions us) p
unfolding new_unit
unit_has [] u p c e = none_here c e
unit_has (x ∷ us) zero p c e = nums_left (positions x.cells) (all_positions us) p (position_has x.cells p c (cell_has x.cells p c e))
unit_has (x ∷ us) (suc u) p c e = nums_right (positions x.cells) (all_positions us) p (unit_has us u p c e)

chain_has : (us : List UnitState) (p : ℕ) (units : List ℕ) (c : Cell) → chain_cell us p units ≡ Some c → Has (all_positions us) p
chain_has us p [] c e = none_here c e
chain_has us p (u ∷ rest) c e = by (cell_at (unit_cells us u) p) refl e
  where
    by : (o : Option Cell) → cell_at (unit_cells us u) p ≡ o → if_all_hold us p rest o ≡ Some c → Has (all_positions us) p
    by None i f = none_here c f
    by (Some d) i f = unit_has us u p d i

module _ (q : Layout) (us : List UnitState) (archive : Log) where
  stands_there : (p : ℕ) (c : Cell) → log_cell q us archive p ≡ Some c → Has (with_nums (positions archive) (all_positions us)) p
  stands_there p c e = by (chain_cell us p (chain_of q p)) refl e
    where
      by : (o : Option Cell) → chain_cell us p (chain_of q p) ≡ o → or_else o (cell_at archive p) ≡ Some c → Has (with_nums (positions archive) (all_positions us)) p
      by None i f = nums_left (positions archive) (all_positions us) p (position_has archive p c (cell_has archive p c f))
      by (Some d) i f = nums_right (positions archive) (all_positions us) p (chain_has us p (chain_of q p) d i)

  at_itself : (p : ℕ) → is_at (nat_cmp p) p ≡ true
  at_itself p = grind arith

  same_at : (p r : ℕ) → is_at (nat_cmp p) r ≡ true → p ≡ r
  same_at p r t = grind arith

  cells_at : (ps : List ℕ) (p : ℕ) (c : Cell) → Has ps p → log_cell q us archive p ≡ Some c → cell_at (cells_of q us archive ps) p ≡ Some c
  cells_at [] p c i e = absurd i
  cells_at (r ∷ ps) p c (inl s) e =
      ap (λ (o : Option Cell). cell_at (cell_if r o (cells_of q us archive ps)) p) (ap (log_cell q us archive) (sym s) ∙ e)
      ∙ ap (λ (b : Bool). cond b (Some c) (cell_at (cells_of q us archive ps) p)) (ap (λ n. is_at (nat_cmp p) n) (sym s) ∙ at_itself p)
  cells_at (r ∷ ps) p c (inr i) e = by (log_cell q us archive r) refl (cells_at ps p c i e)
    where
      some_same : (a b : Cell) → Some a ≡ Some b → a ≡ b
      some_same a b f = cc

      here : (d : Cell) → log_cell q us archive r ≡ Some d → cell_at (cells_of q us archive ps) p ≡ Some c → (b : Bool) → is_at (nat_cmp p) r ≡ b → cond b (Some d) (cell_at (cells_of q us archive ps) p) ≡ Some c
      here d f rest true t = sym f ∙ (ap (log_cell q us archive) (sym (same_at p r t)) ∙ e)
      here d f rest false t = rest

      by : (o : Option Cell) → log_cell q us archive r ≡ o → cell_at (cells_of q us archive ps) p ≡ Some c → cell_at (cell_if r o (cells_of q us archive ps)) p ≡ Some c
      by None f rest = rest
      by (Some d) f rest = here d f rest (is_at (nat_cmp p) r) refl

  pub log_has : (p : ℕ) (c : Cell) → log_cell q us archive p ≡ Some c → cell_at (log_of q us archive) p ≡ Some c
  unfolding log_of
  log_has p c e = cells_at (with_nums (positions archive) (all_positions us)) p c (stands_there p c e) e

pub log_at : (m : Meaning) (w : World m) (p : ℕ) (c : Cell) → log_cell (latest m w) w.units w.archive p ≡ Some c → cell_at (log m w) p ≡ Some c
unfolding log
log_at m w p c e = log_has (latest m w) w.units w.archive p c e
