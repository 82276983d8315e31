use Rattle.tg_law_headline.proofs.Trimming.Decided.{met_decided_where}
use Rattle.tg_law_headline.proofs.laws_of_trimming.met_decided_where.Goals as goal

pub returns : goal.returns
returns g c = met_decided_where _
