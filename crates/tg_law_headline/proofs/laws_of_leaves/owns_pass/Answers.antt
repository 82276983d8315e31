use Rattle.tg_law_headline.proofs.Leaves.Leaving.{owns_pass}
use Rattle.tg_law_headline.proofs.laws_of_leaves.owns_pass.Goals as goal

pub returns : goal.returns
returns g c = owns_pass _
