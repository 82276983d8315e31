use Rattle.tg_law_headline.proofs.AllKinds.Keeps.{kinds_keep_directory}
use Rattle.tg_law_headline.proofs.laws_of_kinds.kinds_keep_directory.Goals as goal

pub returns : goal.returns
returns g = kinds_keep_directory
