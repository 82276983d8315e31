use Rattle.tg_law_finish.proofs.Tallies.Settling.{ask_settles}
use Rattle.tg_law_finish.proofs.laws_of_tallies.ask_is_answered.Goals as goal

pub returns : goal.returns
returns g = ask_settles
