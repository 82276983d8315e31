-- A get's state in the words of the rules.
use Rattle.std.specs.Prelude.{Bool, true, nat_lt, length}
use Rattle.tg_chain.specs.declared.get_state.GetState.{GetState}
use Rattle.tg_chain.specs.declared.get_state.GetState.TheVariants as state
use Rattle.tg_protocol.specs.Cells.{CellJob, Gets, works}

abbrev pub get_job : GetState → CellJob
get_job (state.Reads a r) = works a (Gets r)
get_job (state.Fills f) = f

-- the last unit can only be asked where there is one
abbrev pub is_get : GetState → Bool
is_get (state.Reads a r) = nat_lt 0 (length a.chain)
is_get (state.Fills f) = true
