use Rattle.tg_law_replies.proofs.Views.Plays.{fresh_true}
use Rattle.tg_law_replies.proofs.laws_of_views.playing.fresh_true.Goals as goal

pub returns : goal.returns
returns g c = fresh_true _
