use Rattle.tg_law_headline.proofs.Registered.Marks.{marks_follow_checkpoints}
use Rattle.tg_law_headline.proofs.laws_of_registered.marks_follow_checkpoints.Goals as goal

pub returns : goal.returns
returns g c = marks_follow_checkpoints _
