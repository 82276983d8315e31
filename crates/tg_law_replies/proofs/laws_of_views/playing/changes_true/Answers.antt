use Rattle.tg_law_replies.proofs.Views.Plays.{changes_true}
use Rattle.tg_law_replies.proofs.laws_of_views.playing.changes_true.Goals as goal

pub returns : goal.returns
returns g c = changes_true _
