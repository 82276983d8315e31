use Rattle.tg_law_walks.proofs.Checkpoints.Checkpoints.{drafts_fit}
use Rattle.tg_law_walks.proofs.laws_of_checkpoints.drafts_fit.Goals as goal

pub returns : goal.returns
returns g c = drafts_fit _
