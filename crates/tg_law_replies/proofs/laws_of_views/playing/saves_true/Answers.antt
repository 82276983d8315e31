use Rattle.tg_law_replies.proofs.Views.Saved.{saves_true}
use Rattle.tg_law_replies.proofs.laws_of_views.playing.saves_true.Goals as goal

pub returns : goal.returns
returns g c = saves_true _
