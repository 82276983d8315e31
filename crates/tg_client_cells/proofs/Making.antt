-- What is known, by its parts.
use Rattle.std.specs.Prelude.{ℕ, List}
use Rattle.tg_base.specs.declared.cell.Cell.{Cell}
use Rattle.tg_client_cells.specs.Known.{Knowledge}

abbrev pub made : List (ℕ × Cell) → List ℕ → ℕ → Knowledge
made cells own settled = record { cells = cells; own = own; settled = settled }
