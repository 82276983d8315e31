use Rattle.tg_law_headline.proofs.AllKinds.Holds.{kinds_have_directory}
use Rattle.tg_law_headline.proofs.laws_of_kinds.kinds_have_directory.Goals as goal

pub returns : goal.returns
returns g = kinds_have_directory
