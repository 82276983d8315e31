use Rattle.tg_law_replies.proofs.History.Versions.{versions_change}
use Rattle.tg_law_replies.proofs.laws_of_history.logs.versions_change.Goals as goal

pub returns : goal.returns
returns g c = versions_change _
