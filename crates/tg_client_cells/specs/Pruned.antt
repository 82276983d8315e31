-- How pages are given up.
use Rattle.std.specs.Prelude.{ℕ, Bool, ◌&&◌, not, List, [], ◌∷◌, filter, map}
use Rattle.std.specs.Ordering.{nat_cmp}
use Rattle.std.specs.BTreeMap.{is_at}
use Rattle.std.specs.Map.{remove_entry}
use Rattle.tg_base.specs.declared.cell.Cell.{Cell}
use Rattle.tg_protocol.specs.Words.{has_num}
use Rattle.tg_client_cells.specs.Words.{is_within, is_page}

module _ {X : Type 0} where
  abbrev pub position : ℕ × X → ℕ
  position e = e.0

  -- without what stands at these positions, from the last to the first
  abbrev pub without : List ℕ → List (ℕ × X) → List (ℕ × X)
  without [] es = es
  without (p ∷ ps) es = remove_entry (is_at (nat_cmp p)) (without ps es)

-- a page at a position that is none of these
abbrev pub is_others : List ℕ → ℕ × Cell → Bool
is_others own e = is_page e.1 && not (has_num e.0 own)

abbrev pub others_in : List ℕ → List (ℕ × Cell) → List ℕ
others_in own cells = map position (filter (is_others own) cells)

abbrev pub stays : List ℕ → ℕ → ℕ → ℕ × Cell → Bool
stays own low high e = not (is_within low high e.0 && is_others own e)
