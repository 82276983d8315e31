-- Cells from a position on.
use Rattle.std.proofs.Common.{◌≡◌, ℕ, suc, ◌≤◌, List, [], ◌∷◌, refl, arith}
use Rattle.std.proofs.lemmas.Bool.Decides.{nat_tests}
use Rattle.std.specs.Ordering.{nat_cmp}
use Rattle.std.specs.Prelude.{All}
use Rattle.std.specs.Map.{keys_of}
use Rattle.std.specs.BTreeMap.Range.{IsLeBy}
use Rattle.tg_base.specs.declared.cell.Cell.{Cell}
use Rattle.tg_protocol.specs.Words.{cells_from}

high-stays : (e : ℕ × Cell) (es : List (ℕ × Cell)) (first n : ℕ) → n ≤ first → IsLeBy nat_cmp first e.0 → cells_from n es ≡ es → cells_from n (e ∷ es) ≡ e ∷ es
high-stays e es first n le lo h = grind (arith, nat_tests)

-- no cell is below the position
pub all-stay : (es : List (ℕ × Cell)) (first n : ℕ) → n ≤ first → All (IsLeBy nat_cmp first) (keys_of es) → cells_from n es ≡ es
all-stay [] first n le h = refl
all-stay (e ∷ es) first n le h = high-stays e es first n le (h 0 0 (omega arith)) (all-stay es first n le (λ k d lt. h (suc k) d (omega (arith, lt))))
