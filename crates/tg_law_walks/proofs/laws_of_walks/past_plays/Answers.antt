use Rattle.tg_law_walks.proofs.Walks.Plays.{past_plays}
use Rattle.tg_law_walks.proofs.laws_of_walks.past_plays.Goals as goal

pub returns : goal.returns
returns g c = past_plays _
