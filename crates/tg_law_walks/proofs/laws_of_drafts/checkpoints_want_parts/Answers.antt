use Rattle.tg_law_walks.proofs.Drafts.Refuted.{checkpoints_want_parts}
use Rattle.tg_law_walks.proofs.laws_of_drafts.checkpoints_want_parts.Goals as goal

pub returns : goal.returns
returns g = checkpoints_want_parts
