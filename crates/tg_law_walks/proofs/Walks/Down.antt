-- How a walk goes on over known cells where each visit lies below the one before: it ends only where no position is left.
use Rattle.std.proofs.Common.{◌≡◌, ℕ, zero, suc, ◌+◌, ◌<◌, ◌≤◌, Bool, true, false, refl, subst, arith, Option, Some, None}
use Rattle.std.specs.Prelude.{nat_le}
use Rattle.tg_base.specs.Layouts.{Layout}
use Rattle.tg_base.specs.declared.cell.Cell.{Cell}
use Rattle.tg_protocol.specs.Words.{cell_at, where_true}
use Rattle.tg_protocol.specs.Requests.{draws, ends}
use Rattle.tg_protocol.specs.Cells.{Gets, place_in, works, get_cell}
use Rattle.tg_protocol.specs.Walking.{Walk, WalkTurn, next_of_trail, visited, walk_members, with_job, reads_turn, at_least, next_visit, walk_on, steps_left, walk_from}

fuel_if : (b : Bool) (lo q r n : ℕ) → nat_le lo r ≡ b → q + 2 ≤ suc n → r < q → steps_left (where_true b r) ≤ n
fuel_if true lo q r n e le lt = omega (arith, le, lt)
fuel_if false lo q r n e le lt = omega (arith, le)

fuel_by : (lo q n : ℕ) (x : Option ℕ) → q + 2 ≤ suc n → ((r : ℕ) → x ≡ Some r → r < q) → steps_left (at_least lo x) ≤ n
fuel_by lo q n None le k = omega (arith, le)
fuel_by lo q n (Some r) le k = let lt : r < q = k r refl in fuel_if (nat_le lo r) lo q r n refl le lt

no_step : (x : Option ℕ) → steps_left x ≤ 0 → ⊥
no_step None le = omega (arith, le)
no_step (Some q) le = omega (arith, le)

module _ (p : Layout) (next : ℕ) (P : Walk → Type 0) (Good : Walk → WalkTurn → Type 0)
    (visits : (w : Walk) (q : ℕ) (c : Cell) → next_visit w ≡ Some q → cell_at w.cells q ≡ Some c → P w → P (visited w q c))
    (falls : (w : Walk) (q : ℕ) (c : Cell) → next_visit w ≡ Some q → cell_at w.cells q ≡ Some c → P w → (r : ℕ) → next_of_trail (visited w q c).trail ≡ Some r → r < q)
    (back : (w : Walk) (q : ℕ) (c : Cell) (t : WalkTurn) → Good (visited w q c) t → Good w t)
    (over : (w : Walk) → next_visit w ≡ None → P w → Good w (ends next (walk_members w None)))
    (reads : (w : Walk) (q : ℕ) → next_visit w ≡ Some q → cell_at w.cells q ≡ None → P w → Good w (draws next (with_job w (works (place_in p q) (Gets next))))) where
  module _ (n : ℕ) (w : Walk) (h : P w) (enough : steps_left (next_visit w) ≤ suc n) (on : (v : Walk) → P v → steps_left (next_visit v) ≤ n → Good v (walk_on p next n v)) where
    at_cell : (q : ℕ) (o : Option Cell) → next_visit w ≡ Some q → cell_at w.cells q ≡ o
        → Good w (elim o as (λ _. WalkTurn) [ Some c ↦ walk_on p next n (visited w q c) | None ↦ reads_turn w (get_cell (place_in p q) next) ])
    unfolding get_cell
    at_cell q None is e = reads w q is e h
    at_cell q (Some c) is e = back w q c _ (on (visited w q c) (visits w q c is e h) (fuel_by w.lo q n (next_of_trail (visited w q c).trail) (subst (λ x. steps_left x ≤ suc n) is enough) (falls w q c is e h)))

    at_visit : (o : Option ℕ) → next_visit w ≡ o → Good w (elim o as (λ _. WalkTurn) [
      | None ↦ ends next (walk_members w None)
      | Some q ↦ elim (cell_at w.cells q) as (λ _. WalkTurn) [ Some c ↦ walk_on p next n (visited w q c) | None ↦ reads_turn w (get_cell (place_in p q) next) ]
    ])
    at_visit None is = over w is h
    at_visit (Some q) is = at_cell q (cell_at w.cells q) is refl

  down_on : (n : ℕ) (w : Walk) → P w → steps_left (next_visit w) ≤ n → Good w (walk_on p next n w)
  unfolding walk_on
  down_on zero w h enough = absurd (no_step (next_visit w) enough)
  down_on (suc n) w h enough = at_visit n w h enough (λ v k e. down_on n v k e) (next_visit w) refl

  pub goes_down : (w : Walk) → P w → Good w (walk_from p next w)
  goes_down w h = down_on (steps_left (next_visit w)) w h (omega arith)
