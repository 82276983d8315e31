-- Pages that are given up in a range.
use Rattle.std.proofs.Common.{◌≡◌, ℕ, ◌≤◌, true, false, not, ◌&&◌, List, filter, map, refl, ap, ◌∙◌, arith}
use Rattle.std.specs.List.Sorted.{IsStrictlySortedBy}
use Rattle.std.specs.Map.{keys_of}
use Rattle.std.specs.Ordering.{nat_cmp}
use Rattle.std.proofs.lemmas.Bool.Decides.{nat_tests}
use Rattle.tg_base.specs.declared.cell.Cell.{Cell}
use Rattle.tg_client_cells.specs.Words.{is_within, cells_within}
use Rattle.tg_client_cells.specs.Pruned.{position, without, is_others, others_in, stays}
use Rattle.tg_client_cells.proofs.Cells.{without_all, filtered_twice, all_pass}

pub dropped : (own : List ℕ) (low high : ℕ) (cells : List (ℕ × Cell)) → IsStrictlySortedBy nat_cmp (keys_of cells) → without (others_in own (cells_within low high cells)) cells ≡ filter (stays own low high) cells
dropped own low high cells h =
    ap (λ (l : List (ℕ × Cell)). without (map position l) cells) (filtered_twice (is_others own) (λ e. is_within low high e.0) cells)
    ∙ without_all (λ e. is_within low high e.0 && is_others own e) (stays own low high) (λ e. refl) cells h

stays-test : (own : List ℕ) (low high : ℕ) → high ≤ low → (e : ℕ × Cell) → stays own low high e ≡ true
stays-test own low high le e = let out : is_within low high e.0 ≡ false = grind (arith, nat_tests) in ap (λ b. not (b && is_others own e)) out

-- in an empty range
pub none_dropped : (own : List ℕ) (low high : ℕ) (cells : List (ℕ × Cell)) → high ≤ low → filter (stays own low high) cells ≡ cells
none_dropped own low high cells le = all_pass (stays own low high) (stays-test own low high le) cells
