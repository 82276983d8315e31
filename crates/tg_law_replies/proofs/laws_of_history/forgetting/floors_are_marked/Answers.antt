use Rattle.tg_law_replies.proofs.History.Floors.{floors_are_marked}
use Rattle.tg_law_replies.proofs.laws_of_history.forgetting.floors_are_marked.Goals as goal

pub returns : goal.returns
returns g c = floors_are_marked _
