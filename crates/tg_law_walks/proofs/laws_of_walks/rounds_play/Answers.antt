use Rattle.tg_law_walks.proofs.Walks.Plays.{rounds_play}
use Rattle.tg_law_walks.proofs.laws_of_walks.rounds_play.Goals as goal

pub returns : goal.returns
returns g c = rounds_play _
