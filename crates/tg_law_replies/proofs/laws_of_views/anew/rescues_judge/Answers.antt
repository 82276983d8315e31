use Rattle.tg_law_replies.proofs.Views.Exact.{rescues_judge}
use Rattle.tg_law_replies.proofs.laws_of_views.anew.rescues_judge.Goals as goal

pub returns : goal.returns
returns g c = rescues_judge _
