use Rattle.tg_law_replies.proofs.Views.Plays.{starts_true}
use Rattle.tg_law_replies.proofs.laws_of_views.playing.starts_true.Goals as goal

pub returns : goal.returns
returns g c = starts_true _
