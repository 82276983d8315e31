-- A walk over known cells.
use Rattle.std.proofs.Common.{◌≡◌, ℕ, zero, suc, ◌+◌, true, false, List, Option, Some, None, refl, sym, ap, ◌∙◌, arith}
use Rattle.std.specs.Prelude.{is_some}
use Rattle.tg_base.specs.Layouts.{Layout}
use Rattle.tg_base.specs.declared.cell.Cell.{Cell}
use Rattle.tg_base.specs.declared.ids.Oid.{Oid}
use Rattle.tg_protocol.specs.Words.{cell_at}
use Rattle.tg_protocol.specs.Requests.{ends}
use Rattle.tg_protocol.specs.Cells.{CellJob, place_in, get_cell}
use Rattle.tg_protocol.specs.Walking.{Walk, WalkTurn, walk_start, walk_from, walk_on, walk_members, visited, reads_turn, next_visit}
use Rattle.tg_stream.specs.Walks.{Course, begun, walk_of, seen_if, comes_to}

-- ---- one visit

-- by the cell at the position, and by the position
at_cell : Layout → ℕ → ℕ → Walk → ℕ → Option Cell → WalkTurn
at_cell p next n w q o = elim o as (λ _. WalkTurn) [
  | Some c ↦ walk_on p next n (visited w q c)
  | None ↦ reads_turn w (get_cell (place_in p q) next)
]

at_visit : Layout → ℕ → ℕ → Walk → Option ℕ → WalkTurn
at_visit p next n w o = elim o as (λ _. WalkTurn) [
  | None ↦ ends next (walk_members w None)
  | Some q ↦ at_cell p next n w q (cell_at w.cells q)
]

pub on-none : (p : Layout) (next n : ℕ) (w : Walk) → next_visit w ≡ None → walk_on p next (suc n) w ≡ ends next (walk_members w None)
unfolding walk_on at_visit at_cell
on-none p next n w e = ap (at_visit p next n w) e

pub on-known : (p : Layout) (next n : ℕ) (w : Walk) (q : ℕ) (c : Cell) → next_visit w ≡ Some q → cell_at w.cells q ≡ Some c →
    walk_on p next (suc n) w ≡ walk_on p next n (visited w q c)
unfolding walk_on at_visit at_cell
on-known p next n w q c e f = ap (at_visit p next n w) e ∙ ap (at_cell p next n w q) f

pub on-unknown : (p : Layout) (next n : ℕ) (w : Walk) (q : ℕ) → next_visit w ≡ Some q → cell_at w.cells q ≡ None →
    walk_on p next (suc n) w ≡ reads_turn w (get_cell (place_in p q) next)
unfolding walk_on at_visit at_cell
on-unknown p next n w q e f = ap (at_visit p next n w) e ∙ ap (at_cell p next n w q) f

pub on-zero : (p : Layout) (next : ℕ) (w : Walk) → walk_on p next zero w ≡ ends next (walk_members w None)
unfolding walk_on
on-zero p next w = refl

-- ---- the walk of the code

-- no step is left
pub left-zero : (p : Layout) (next : ℕ) (j : Option CellJob) (left : ℕ) (s : Course) → left ≡ 0 → walk_on p next left (walk_of s j) ≡ comes_to p next (walk_of s j) None
left-zero p next j left s e = ap (λ n. walk_on p next n (walk_of s j)) e ∙ on-zero p next (walk_of s j)

-- no position is left
pub left-none : (p : Layout) (next : ℕ) (j : Option CellJob) (left rest : ℕ) (s : Course) → left ≡ rest + 1 → next_visit (walk_of s None) ≡ None →
    walk_on p next left (walk_of s j) ≡ comes_to p next (walk_of s j) None
left-none p next j left rest s e h =
    let one : left ≡ suc rest = omega (arith, e) in
    ap (λ n. walk_on p next n (walk_of s j)) one ∙ on-none p next rest (walk_of s j) h

known-cell : (o : Option Cell) (p : Layout) (next n : ℕ) (j : Option CellJob) (s t : Course) (q : ℕ) → cell_at s.cells q ≡ o → next_visit (walk_of s None) ≡ Some q →
    true ≡ is_some o → t ≡ seen_if s q o → walk_on p next (suc n) (walk_of s j) ≡ walk_on p next n (walk_of t j)
known-cell None p next n j s t q f h some is = absurd (cc)
known-cell (Some c) p next n j s t q f h some is = on-known p next n (walk_of s j) q c h f ∙ ap (λ (x : Course). walk_on p next n (walk_of x j)) (sym is)

unknown-cell : (o : Option Cell) (p : Layout) (next n : ℕ) (j : Option CellJob) (s t : Course) (q : ℕ) → cell_at s.cells q ≡ o → next_visit (walk_of s None) ≡ Some q →
    false ≡ is_some o → t ≡ seen_if s q o → walk_on p next (suc n) (walk_of s j) ≡ comes_to p next (walk_of t j) (Some q)
unknown-cell None p next n j s t q f h some is = on-unknown p next n (walk_of s j) q h f ∙ ap (λ (x : Course). comes_to p next (walk_of x j) (Some q)) (sym is)
unknown-cell (Some c) p next n j s t q f h some is = absurd (cc)

-- the cell is known
pub left-known : (p : Layout) (next : ℕ) (j : Option CellJob) (left rest : ℕ) (s t : Course) (q : ℕ) → left ≡ rest + 1 → next_visit (walk_of s None) ≡ Some q →
    true ≡ is_some (cell_at s.cells q) → t ≡ seen_if s q (cell_at s.cells q) → walk_on p next left (walk_of s j) ≡ walk_on p next rest (walk_of t j)
left-known p next j left rest s t q e h known is =
    let one : left ≡ suc rest = omega (arith, e) in
    ap (λ n. walk_on p next n (walk_of s j)) one ∙ known-cell (cell_at s.cells q) p next rest j s t q refl h known is

-- the cell isn't known
pub left-unknown : (p : Layout) (next : ℕ) (j : Option CellJob) (left rest : ℕ) (s t : Course) (q : ℕ) → left ≡ rest + 1 → next_visit (walk_of s None) ≡ Some q →
    false ≡ is_some (cell_at s.cells q) → t ≡ seen_if s q (cell_at s.cells q) → walk_on p next left (walk_of s j) ≡ comes_to p next (walk_of t j) (Some q)
left-unknown p next j left rest s t q e h known is =
    let one : left ≡ suc rest = omega (arith, e) in
    ap (λ n. walk_on p next n (walk_of s j)) one ∙ unknown-cell (cell_at s.cells q) p next rest j s t q refl h known is

-- ---- the beginning

pub start-is : (p : Layout) (o : Oid) (lasts : List ℕ) (lo : ℕ) (cells : List (ℕ × Cell)) (next : ℕ) →
    walk_start p o lasts lo cells next ≡ walk_from p next (walk_of (begun o lasts lo cells) None)
unfolding walk_start
start-is p o lasts lo cells next = refl
