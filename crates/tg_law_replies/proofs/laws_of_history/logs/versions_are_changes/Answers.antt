use Rattle.tg_law_replies.proofs.History.History.{versions_are_changes}
use Rattle.tg_law_replies.proofs.laws_of_history.logs.versions_are_changes.Goals as goal

pub returns : goal.returns
returns g c = versions_are_changes _
