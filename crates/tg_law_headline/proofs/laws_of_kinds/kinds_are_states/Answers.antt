use Rattle.tg_law_headline.proofs.AllKinds.Holds.{kinds_are_states}
use Rattle.tg_law_headline.proofs.laws_of_kinds.kinds_are_states.Goals as goal

pub returns : goal.returns
returns g = kinds_are_states
