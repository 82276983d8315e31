use Rattle.tg_law_headline.proofs.Decided.Later.{later_tails_follow}
use Rattle.tg_law_headline.proofs.laws_of_decided.later_tails_follow.Goals as goal

pub returns : goal.returns
returns g c = later_tails_follow _
