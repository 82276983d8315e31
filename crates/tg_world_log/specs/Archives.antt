-- The archive: cells of the log that were trimmed; and sets of positions.
use Rattle.std.specs.Prelude.{ℕ, nat_lt, List, [], ◌∷◌, if◌then◌else◌}
use Rattle.std.specs.BTreeSet.{insert_key}
use Rattle.std.specs.Ordering.{nat_cmp}
use Rattle.tg_base.specs.declared.cell.Cell.{Cell}
use Rattle.tg_protocol.specs.Words.{with_cell}
use Rattle.tg_protocol.specs.Logs.{Log}

-- with those of these cells that are below a position
abbrev pub archived : List (ℕ × Cell) → ℕ → Log → Log
archived [] low archive = archive
archived (x ∷ xs) low archive = if nat_lt x.0 low then with_cell (archived xs low archive) x.0 x.1 else archived xs low archive

-- a set with these keys more
abbrev pub with_keys : List ℕ → List ℕ → List ℕ
with_keys [] ys = ys
with_keys (x ∷ xs) ys = insert_key nat_cmp (with_keys xs ys) x
