use Rattle.tg_client_cells.proofs.Ruled.{as_ruled}
use Rattle.tg_client_cells.proofs.laws.words_are_the_rules.Goals as goal

pub returns : goal.returns
returns g c = as_ruled _
