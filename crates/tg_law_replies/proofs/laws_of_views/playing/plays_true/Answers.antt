use Rattle.tg_law_replies.proofs.Views.Plays.{plays_true}
use Rattle.tg_law_replies.proofs.laws_of_views.playing.plays_true.Goals as goal

pub returns : goal.returns
returns g c = plays_true _
