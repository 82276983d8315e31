-- A fill's state in the words of the rules.
use Rattle.std.specs.Prelude.{ℕ}
use Rattle.tg_chain.specs.declared.fill_state.FillState.{FillState}
use Rattle.tg_chain.specs.declared.fill_state.FillState.TheVariants as state
use Rattle.tg_protocol.specs.Cells.{CellWork, Fills, Copies}

abbrev pub fill_work : FillState → CellWork
fill_work (state.Asks r) = Fills r
fill_work (state.Copies r c i) = Copies r c i

-- the place of the unit that is asked
abbrev pub fill_at : FillState → ℕ
fill_at (state.Asks r) = 0
fill_at (state.Copies r c i) = i
