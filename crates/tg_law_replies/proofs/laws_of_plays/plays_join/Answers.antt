use Rattle.tg_law_replies.proofs.Plays.Joins.{plays_join}
use Rattle.tg_law_replies.proofs.laws_of_plays.plays_join.Goals as goal

pub returns : goal.returns
returns g c = plays_join _
