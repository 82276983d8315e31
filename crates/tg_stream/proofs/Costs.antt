-- What unknown cells cost.
use Rattle.std.proofs.Common.{◌≡◌, ◌≢◌, ℕ, zero, suc, ◌+◌, ◌<◌, ◌≤◌, List, Option, None, if◌then◌else◌, refl, sym, ap, ◌∙◌, inl, inr, arith}
use Rattle.std.specs.Prelude.{is_some}
use Rattle.std.proofs.lemmas.Bool.{cases_eq}
use Rattle.tg_base.specs.declared.cell.Cell.{Cell}
use Rattle.tg_base.specs.declared.cell.Cell.TheVariants.{Junk}
use Rattle.tg_protocol.specs.Words.{cell_at, with_cell}
use Rattle.tg_stream.specs.Laws.{for_unknown}
use Rattle.tg_stream.proofs.Lookups.{found, others}

abbrev cost_of : ℕ → Option Cell → ℕ
cost_of k o = if is_some o then 0 else k

-- the cells at these positions are the same
cost_same : (k : ℕ) (es fs : List (ℕ × Cell)) (lo n : ℕ) → ((r : ℕ) → r < lo + n → cell_at fs r ≡ cell_at es r) → for_unknown k fs lo n ≡ for_unknown k es lo n
cost_same k es fs lo zero h = refl
cost_same k es fs lo (suc n) h =
    let below : for_unknown k fs lo n ≡ for_unknown k es lo n = cost_same k es fs lo n (λ r lt. h r (omega (arith, lt))) in
    let here : cost_of k (cell_at fs (lo + n)) ≡ cost_of k (cell_at es (lo + n)) = ap (cost_of k) (h (lo + n) (omega arith)) in
    omega (arith, below, here)

-- a cell that becomes known costs nothing more
pub cost_one : (k : ℕ) (es : List (ℕ × Cell)) (q : ℕ) (c : Cell) (lo n : ℕ) → cell_at es q ≡ None → lo ≤ q → q < lo + n →
    for_unknown k es lo n ≡ for_unknown k (with_cell es q c) lo n + k
cost_one k es q c lo zero none le lt = absurd (omega (arith, le, lt))
cost_one k es q c lo (suc n) none le lt =
    elim (cases_eq q (lo + n)) [
      | inl same ↦
          let below : for_unknown k (with_cell es q c) lo n ≡ for_unknown k es lo n = cost_same k es (with_cell es q c) lo n (λ r l. others es q r c (λ h. omega (arith, h, l, same))) in
          let before : cost_of k (cell_at es (lo + n)) ≡ k = ap (λ r. cost_of k (cell_at es r)) (sym same) ∙ ap (cost_of k) none in
          let after : cost_of k (cell_at (with_cell es q c) (lo + n)) ≡ 0 = ap (λ r. cost_of k (cell_at (with_cell es q c) r)) (sym same) ∙ ap (cost_of k) (found es q c) in
          omega (arith, below, before, after)
      | inr other ↦
          let below : for_unknown k es lo n ≡ for_unknown k (with_cell es q c) lo n + k = cost_one k es q c lo n none le (omega (arith, lt, other)) in
          let apart : (lo + n) ≢ q = λ h. other (sym h) in
          let here : cost_of k (cell_at (with_cell es q c) (lo + n)) ≡ cost_of k (cell_at es (lo + n)) = ap (cost_of k) (others es q (lo + n) c apart) in
          omega (arith, below, here)
    ]

-- an unknown one costs its part
pub cost_least : (k : ℕ) (es : List (ℕ × Cell)) (q lo n : ℕ) → cell_at es q ≡ None → lo ≤ q → q < lo + n → k ≤ for_unknown k es lo n
cost_least k es q lo n none le lt =
    let one : for_unknown k es lo n ≡ for_unknown k (with_cell es q Junk) lo n + k = cost_one k es q Junk lo n none le lt in
    omega (arith, one)
