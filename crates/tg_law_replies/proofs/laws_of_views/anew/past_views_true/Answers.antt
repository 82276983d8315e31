use Rattle.tg_law_replies.proofs.Views.Exact.{past_views_true}
use Rattle.tg_law_replies.proofs.laws_of_views.anew.past_views_true.Goals as goal

pub returns : goal.returns
returns g c = past_views_true _
