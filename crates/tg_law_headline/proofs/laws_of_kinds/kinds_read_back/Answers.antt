use Rattle.tg_law_headline.proofs.AllKinds.Fitting.{kinds_read_back}
use Rattle.tg_law_headline.proofs.laws_of_kinds.kinds_read_back.Goals as goal

pub returns : goal.returns
returns g = kinds_read_back
