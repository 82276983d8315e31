-- Cells below a position.
use Rattle.std.specs.Prelude.{◌≡◌, ℕ, nat_lt, Bool, true, false, cond, List, [], ◌∷◌, ◌++◌, Option, Some, None, refl}
use Rattle.std.proofs.Common.{ap, sym, ◌∙◌}
use Rattle.std.proofs.lemmas.List.{append_assoc}
use Rattle.tg_base.specs.Layouts.{Layout}
use Rattle.tg_base.specs.declared.cell.Cell.{Cell}
use Rattle.tg_protocol.specs.Words.{with_cell}
use Rattle.tg_protocol.specs.Units.{UnitState}
use Rattle.tg_protocol.specs.Logs.{Log, log_cell, cell_if, cells_of}
use Rattle.tg_unit.specs.Segments.{cells_below}
use Rattle.tg_world_log.specs.Archives.{archived}

-- only those below a position are put into the archive
pub below_archived : (xs : List (ℕ × Cell)) (low : ℕ) (archive : Log) → archived (cells_below low xs) low archive ≡ archived xs low archive
below_archived [] low archive = refl
below_archived (x ∷ xs) low archive = by (below_archived xs low archive) (nat_lt x.0 low) refl
  where
    by : archived (cells_below low xs) low archive ≡ archived xs low archive → (t : Bool) → nat_lt x.0 low ≡ t
        → archived (cond t (x ∷ cells_below low xs) (cells_below low xs)) low archive ≡ cond t (with_cell (archived xs low archive) x.0 x.1) (archived xs low archive)
    by h true e =
        ap (λ (t : Bool). cond t (with_cell (archived (cells_below low xs) low archive) x.0 x.1) (archived (cells_below low xs) low archive)) e
        ∙ ap (λ (l : Log). with_cell l x.0 x.1) h
    by h false e = h

-- the last of several cells is put first
pub archived_last : (xs : List (ℕ × Cell)) (x : ℕ × Cell) (low : ℕ) (archive : Log) → archived (xs ++ x ∷ []) low archive ≡ archived xs low (archived (x ∷ []) low archive)
archived_last [] x low archive = refl
archived_last (y ∷ xs) x low archive = ap (λ (l : Log). cond (nat_lt y.0 low) (with_cell l y.0 y.1) l) (archived_last xs x low archive)

pub archived_popped : (left rest : List (ℕ × Cell)) (x : ℕ × Cell) (low : ℕ) (archive after all : Log) → left ≡ rest ++ x ∷ [] → after ≡ archived (x ∷ []) low archive → archived left low archive ≡ all
    → archived rest low after ≡ all
archived_popped left rest x low archive after all e put h =
    ap (λ (l : Log). archived rest low l) put ∙ sym (archived_last rest x low archive) ∙ ap (λ (xs : List (ℕ × Cell)). archived xs low archive) (sym e) ∙ h

-- ---- the cells at one position more

module _ (q : Layout) (us : List UnitState) (archive : Log) where
  if_cell : (p : ℕ) (o : Option Cell) (rest : Log) → cell_if p o rest ≡ cell_if p o [] ++ rest
  if_cell p None rest = refl
  if_cell p (Some c) rest = refl

  pub cells_more : (found new : Log) (p : ℕ) (ps rest : List ℕ) (all : Log) → new ≡ found ++ cell_if p (log_cell q us archive p) [] → ps ≡ p ∷ rest → found ++ cells_of q us archive ps ≡ all
      → new ++ cells_of q us archive rest ≡ all
  cells_more found new p ps rest all put first h =
      ap (λ (l : Log). l ++ cells_of q us archive rest) put
      ∙ append_assoc found (cell_if p (log_cell q us archive p) []) (cells_of q us archive rest)
      ∙ ap (λ (l : Log). found ++ l) (sym (if_cell p (log_cell q us archive p) (cells_of q us archive rest)))
      ∙ ap (λ (xs : List ℕ). found ++ cells_of q us archive xs) (sym first)
      ∙ h

  below_joined : (low : ℕ) (xs ys : Log) → cells_below low (xs ++ ys) ≡ cells_below low xs ++ cells_below low ys
  below_joined low [] ys = refl
  below_joined low (x ∷ xs) ys = by (below_joined low xs ys) (nat_lt x.0 low)
    where
      by : cells_below low (xs ++ ys) ≡ cells_below low xs ++ cells_below low ys → (t : Bool)
          → cond t (x ∷ cells_below low (xs ++ ys)) (cells_below low (xs ++ ys)) ≡ cond t (x ∷ cells_below low xs) (cells_below low xs) ++ cells_below low ys
      by h true = λ i. x ∷ h i
      by h false = h

  pub below_more : (low : ℕ) (found new : Log) (p : ℕ) (ps rest : List ℕ) (all : Log) → new ≡ found ++ cells_below low (cell_if p (log_cell q us archive p) []) → ps ≡ p ∷ rest
      → found ++ cells_below low (cells_of q us archive ps) ≡ all → new ++ cells_below low (cells_of q us archive rest) ≡ all
  below_more low found new p ps rest all put first h =
      ap (λ (l : Log). l ++ cells_below low (cells_of q us archive rest)) put
      ∙ append_assoc found (cells_below low (cell_if p (log_cell q us archive p) [])) (cells_below low (cells_of q us archive rest))
      ∙ ap (λ (l : Log). found ++ l)
      (sym (below_joined low (cell_if p (log_cell q us archive p) []) (cells_of q us archive rest))
      ∙ ap (λ (l : Log). cells_below low l) (sym (if_cell p (log_cell q us archive p) (cells_of q us archive rest))))
      ∙ ap (λ (xs : List ℕ). found ++ cells_below low (cells_of q us archive xs)) (sym first)
      ∙ h
