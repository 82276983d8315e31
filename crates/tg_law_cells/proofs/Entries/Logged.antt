-- The log as a list, and what a whole chain has.
use Rattle.std.proofs.Common.{◌≡◌, ◌⊎◌, ℕ, zero, suc, ◌<◌, List, [], ◌∷◌, length, Bool, true, false, ◌&&◌, refl, sym, ap, ◌∙◌, subst, inl, inr, arith, Option, Some, None}
use Rattle.tg_base.specs.Layouts.{Layout}
use Rattle.tg_base.specs.declared.cell.Cell.{Cell}
use Rattle.tg_kind.specs.Meaning.{Meaning}
use Rattle.tg_protocol.specs.Words.{cell_at, cell_eq, with_nums, where_true, or_else}
use Rattle.tg_protocol.specs.Layouts.{chain_of}
use Rattle.tg_protocol.specs.Units.{UnitState, new_unit}
use Rattle.tg_protocol.specs.Logs.{Log, unit_cells, holds_it, all_hold, if_all_hold, chain_cell, log_cell, positions, all_positions, cell_if, cells_of, log_of}
use Rattle.tg_protocol.specs.Worlds.{World, latest, log}
use Rattle.tg_law_layouts.proofs.Moves.Members.{Has}
use Rattle.tg_law_layouts.proofs.Moves.Units.{cell_same}
use Rattle.tg_law_cells.proofs.Entries.Lists.{nums_left, nums_right, some_same, none_cell, read_has, cell_self}

-- What a whole chain has, each unit of it has.

where_is : (b : Bool) (c x : Cell) → where_true b c ≡ Some x → (b ≡ true) × (c ≡ x)
where_is true c x e = (refl, some_same c x e)
where_is false c x e = none_cell x e

equal_cells : (x c : Cell) → cell_eq x c ≡ true → x ≡ c
equal_cells x c e = by (cell_same x c)
  where
    contrary : (b : Bool) → b ≡ true → b ≡ false → ⊥
    contrary b e f = cc

    by : (cell_eq x c ≡ false) ⊎ (x ≡ c) → x ≡ c
    by (inl f) = absurd (contrary (cell_eq x c) e f)
    by (inr s) = s

both_true : (a b : Bool) → (a && b) ≡ true → (a ≡ true) × (b ≡ true)
both_true true b e = (refl, e)
both_true false b e = absurd (cc)

held_is : (o : Option Cell) (c : Cell) → holds_it o c ≡ true → o ≡ Some c
held_is None c e = absurd (cc)
held_is (Some x) c e = ap (λ (y : Cell). Some y) (equal_cells x c e)

each_has : (us : List UnitState) (p : ℕ) (c : Cell) (units : List ℕ) → all_hold us p c units ≡ true → (u : ℕ) → Has units u → cell_at (unit_cells us u) p ≡ Some c
each_has us p c [] e u g = absurd g
each_has us p c (v ∷ rest) e u (inl s) = subst (λ (w : ℕ). cell_at (unit_cells us w) p ≡ Some c) (sym s) (held_is (cell_at (unit_cells us v) p) c (both_true _ _ e).0)
each_has us p c (v ∷ rest) e u (inr g) = each_has us p c rest (both_true (holds_it (cell_at (unit_cells us v) p) c) _ e).1 u g

pub chain_has : (us : List UnitState) (p : ℕ) (units : List ℕ) (x : Cell) → chain_cell us p units ≡ Some x → (u : ℕ) → Has units u → cell_at (unit_cells us u) p ≡ Some x
chain_has us p [] x e u g = absurd g
chain_has us p (v ∷ rest) x e u g = by (cell_at (unit_cells us v) p) refl e
  where
    by : (o : Option Cell) → cell_at (unit_cells us v) p ≡ o → if_all_hold us p rest o ≡ Some x → cell_at (unit_cells us u) p ≡ Some x
    by None i f = none_cell x f
    by (Some c) i f = which g
      where
        k : (all_hold us p c rest ≡ true) × (c ≡ x)
        k = where_is (all_hold us p c rest) c x f

        is : Some c ≡ Some x
        is = ap (λ (y : Cell). Some y) (where_is (all_hold us p c rest) c x f).1

        which : Has (v ∷ rest) u → cell_at (unit_cells us u) p ≡ Some x
        which (inl s) = subst (λ (w : ℕ). cell_at (unit_cells us w) p ≡ Some x) (sym s) (i ∙ is)
        which (inr j) = each_has us p c rest k.0 u j ∙ is

-- And a chain whose units all have a cell has it.

holds_more : (us : List UnitState) (pos u : ℕ) (rest : List ℕ) (c : Cell) → cell_at (unit_cells us u) pos ≡ Some c → all_hold us pos c rest ≡ true → all_hold us pos c (u ∷ rest) ≡ true
holds_more us pos u rest c e h = ap (λ o. holds_it o c && all_hold us pos c rest) e ∙ (ap (λ b. b && all_hold us pos c rest) (cell_self c) ∙ h)

holding : (us : List UnitState) (pos : ℕ) (units : List ℕ) (c : Cell) → ((u : ℕ) → Has units u → cell_at (unit_cells us u) pos ≡ Some c) → all_hold us pos c units ≡ true
holding us pos [] c f = refl
holding us pos (u ∷ rest) c f = holds_more us pos u rest c (f u (inl refl)) (holding us pos rest c (λ v i. f v (inr i)))

pub whole_chain : (us : List UnitState) (pos : ℕ) (units : List ℕ) (c : Cell) → 0 < length units → ((u : ℕ) → Has units u → cell_at (unit_cells us u) pos ≡ Some c) → chain_cell us pos units ≡ Some c
whole_chain us pos [] c some f = absurd (omega (arith, some))
whole_chain us pos (u ∷ rest) c some f = ap (λ o. if_all_hold us pos rest o) (f u (inl refl)) ∙ ap (λ b. where_true b c) (holding us pos rest c (λ v i. f v (inr i)))

-- The log as a list.

position_has : (cells : List (ℕ × Cell)) (p : ℕ) (c : Cell) → Has cells (p, c) → Has (positions cells) p
position_has [] p c i = absurd i
position_has (x ∷ cells) p c (inl e) = inl (ap (λ (y : ℕ × Cell). y.0) e)
position_has (x ∷ cells) p c (inr i) = inr (position_has cells p c i)

unit_has : (us : List UnitState) (u p : ℕ) (c : Cell) → cell_at (unit_cells us u) p ≡ Some c → Has (all_positions us) p
unfolding new_unit
unit_has [] u p c e = none_cell c e
unit_has (x ∷ us) zero p c e = nums_left (positions x.cells) (all_positions us) p (position_has x.cells p c (read_has x.cells p c e))
unit_has (x ∷ us) (suc u) p c e = nums_right (positions x.cells) (all_positions us) p (unit_has us u p c e)

in_units : (us : List UnitState) (p : ℕ) (units : List ℕ) (c : Cell) → chain_cell us p units ≡ Some c → Has (all_positions us) p
in_units us p [] c e = none_cell c e
in_units us p (u ∷ rest) c e = unit_has us u p c (chain_has us p (u ∷ rest) c e u (inl refl))

module _ (q : Layout) (us : List UnitState) (archive : Log) where
  stands_there : (p : ℕ) (c : Cell) → log_cell q us archive p ≡ Some c → Has (with_nums (positions archive) (all_positions us)) p
  stands_there p c e = by (chain_cell us p (chain_of q p)) refl e
    where
      by : (o : Option Cell) → chain_cell us p (chain_of q p) ≡ o → or_else o (cell_at archive p) ≡ Some c → Has (with_nums (positions archive) (all_positions us)) p
      by None i f = nums_left (positions archive) (all_positions us) p (position_has archive p c (read_has archive p c f))
      by (Some d) i f = nums_right (positions archive) (all_positions us) p (in_units us p (chain_of q p) d i)

  cells_have : (ps : List ℕ) (p : ℕ) (c : Cell) → Has ps p → log_cell q us archive p ≡ Some c → Has (cells_of q us archive ps) (p, c)
  cells_have [] p c i e = absurd i
  cells_have (r ∷ ps) p c (inl s) e =
      subst (λ n. Has (cell_if n (log_cell q us archive n) (cells_of q us archive ps)) (p, c)) s
      (subst (λ (o : Option Cell). Has (cell_if p o (cells_of q us archive ps)) (p, c)) (sym e) (inl refl))
  cells_have (r ∷ ps) p c (inr i) e = more (log_cell q us archive r) (cells_have ps p c i e)
    where
      more : (o : Option Cell) → Has (cells_of q us archive ps) (p, c) → Has (cell_if r o (cells_of q us archive ps)) (p, c)
      more None g = g
      more (Some d) g = inr g

  cells_are : (ps : List ℕ) (p : ℕ) (c : Cell) → Has (cells_of q us archive ps) (p, c) → log_cell q us archive p ≡ Some c
  cells_are [] p c i = absurd i
  cells_are (r ∷ ps) p c i = by (log_cell q us archive r) refl i (λ j. cells_are ps p c j)
    where
      by : (o : Option Cell) → log_cell q us archive r ≡ o → Has (cell_if r o (cells_of q us archive ps)) (p, c) → (Has (cells_of q us archive ps) (p, c) → log_cell q us archive p ≡ Some c) → log_cell q us archive p ≡ Some c
      by None e j rest = rest j
      by (Some d) e (inl s) rest = ap (λ (y : ℕ × Cell). log_cell q us archive y.0) s ∙ (e ∙ ap (λ (y : ℕ × Cell). Some y.1) (sym s))
      by (Some d) e (inr j) rest = rest j

module _ (m : Meaning) (w : World m) where
  pub log_has : (p : ℕ) (c : Cell) → log_cell (latest m w) w.units w.archive p ≡ Some c → Has (log m w) (p, c)
  unfolding log log_of
  log_has p c e = cells_have (latest m w) w.units w.archive _ p c (stands_there (latest m w) w.units w.archive p c e) e

  pub log_is : (p : ℕ) (c : Cell) → Has (log m w) (p, c) → log_cell (latest m w) w.units w.archive p ≡ Some c
  unfolding log log_of
  log_is p c g = cells_are (latest m w) w.units w.archive _ p c g
