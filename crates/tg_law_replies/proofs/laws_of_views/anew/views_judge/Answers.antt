use Rattle.tg_law_replies.proofs.Views.Judges.{views_judge}
use Rattle.tg_law_replies.proofs.laws_of_views.anew.views_judge.Goals as goal

pub returns : goal.returns
returns g c = views_judge _
