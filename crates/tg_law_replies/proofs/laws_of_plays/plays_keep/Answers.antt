use Rattle.tg_law_replies.proofs.Plays.Kept.{plays_keep}
use Rattle.tg_law_replies.proofs.laws_of_plays.plays_keep.Goals as goal

pub returns : goal.returns
returns g c = plays_keep _
