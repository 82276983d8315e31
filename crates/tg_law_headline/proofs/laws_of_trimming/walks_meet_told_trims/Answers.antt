use Rattle.tg_law_headline.proofs.Trimming.Meeting.{walks_meet_told_trims}
use Rattle.tg_law_headline.proofs.laws_of_trimming.walks_meet_told_trims.Goals as goal

pub returns : goal.returns
returns g c = walks_meet_told_trims _
