use Rattle.tg_law_replies.proofs.Plays.Saved.{checkpoints_keep}
use Rattle.tg_law_replies.proofs.laws_of_plays.checkpoints_keep.Goals as goal

pub returns : goal.returns
returns g c = checkpoints_keep _
