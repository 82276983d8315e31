use Rattle.tg_law_replies.proofs.History.Loads.{states_load}
use Rattle.tg_law_replies.proofs.laws_of_history.logs.states_load.Goals as goal

pub returns : goal.returns
returns g c = states_load _
