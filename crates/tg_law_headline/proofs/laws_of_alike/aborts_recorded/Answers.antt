use Rattle.tg_law_headline.proofs.Alike.Recording.{aborts_recorded}
use Rattle.tg_law_headline.proofs.laws_of_alike.aborts_recorded.Goals as goal

pub returns : goal.returns
returns g c = aborts_recorded _
