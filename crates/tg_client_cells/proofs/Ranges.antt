-- Cells in a range.
use Rattle.std.specs.Prelude.{◌≡◌, ℕ, ◌≤◌, false, List, [], ◌∷◌, filter, refl}
use Rattle.std.specs.Ordering.{nat_cmp}
use Rattle.std.specs.BTreeMap.Range.{range_contains}
use Rattle.std.specs.declared.ops.Bound.TheVariants.{Included, Excluded}
use Rattle.std.proofs.Common.{arith}
use Rattle.std.proofs.lemmas.Bool.Decides.{nat_tests}
use Rattle.std.proofs.lemmas.List.Elements.{filter_agree}
use Rattle.tg_base.specs.declared.cell.Cell.{Cell}
use Rattle.tg_client_cells.specs.Words.{is_within, cells_within}

range_is : (low high n : ℕ) → range_contains nat_cmp (Included low) (Excluded high) n ≡ is_within low high n
range_is low high n = grind (arith, nat_tests)

pub cells_is : (low high : ℕ) (cells : List (ℕ × Cell)) → filter (λ (e : ℕ × Cell). range_contains nat_cmp (Included low) (Excluded high) e.0) cells ≡ cells_within low high cells
cells_is low high cells = filter_agree (λ (e : ℕ × Cell). range_contains nat_cmp (Included low) (Excluded high) e.0) (λ (e : ℕ × Cell). is_within low high e.0) (λ e. range_is low high e.0) cells

out : (low high n : ℕ) → high ≤ low → is_within low high n ≡ false
out low high n le = grind (arith, nat_tests)

pub cells_none : (low high : ℕ) (cells : List (ℕ × Cell)) → high ≤ low → cells_within low high cells ≡ []
cells_none low high [] le = refl
cells_none low high (e ∷ cells) le = rw (out low high e.0 le) (cells_none low high cells le)
