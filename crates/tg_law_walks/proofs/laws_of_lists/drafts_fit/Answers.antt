use Rattle.tg_law_walks.proofs.Lists.Fits.{drafts_fit}
use Rattle.tg_law_walks.proofs.laws_of_lists.drafts_fit.Goals as goal

pub returns : goal.returns
returns g c = drafts_fit _
