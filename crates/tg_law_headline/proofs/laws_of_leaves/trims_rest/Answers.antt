use Rattle.tg_law_headline.proofs.Leaves.Resting.{trims_rest}
use Rattle.tg_law_headline.proofs.laws_of_leaves.trims_rest.Goals as goal

pub returns : goal.returns
returns g c = trims_rest _
