use Rattle.tg_law_finish.proofs.Finish.Nets.{takes_turn}
use Rattle.tg_law_finish.proofs.laws_of_finish.deliveries_take_turns.Goals as goal

pub returns : goal.returns
returns g c = takes_turn _
