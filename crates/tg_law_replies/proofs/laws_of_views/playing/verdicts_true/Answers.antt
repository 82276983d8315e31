use Rattle.tg_law_replies.proofs.Views.Plays.{verdicts_true}
use Rattle.tg_law_replies.proofs.laws_of_views.playing.verdicts_true.Goals as goal

pub returns : goal.returns
returns g c = verdicts_true _
