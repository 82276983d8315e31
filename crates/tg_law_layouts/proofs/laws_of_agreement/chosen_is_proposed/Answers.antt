use Rattle.tg_law_layouts.proofs.Agreement.Contests.{chosen_is_proposed}
use Rattle.tg_law_layouts.proofs.laws_of_agreement.chosen_is_proposed.Goals as goal

pub returns : goal.returns
returns c = chosen_is_proposed
