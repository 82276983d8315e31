use Rattle.tg_law_walks.proofs.Walks.Plays.{rescues_play}
use Rattle.tg_law_walks.proofs.laws_of_walks.rescues_play.Goals as goal

pub returns : goal.returns
returns g c = rescues_play _
