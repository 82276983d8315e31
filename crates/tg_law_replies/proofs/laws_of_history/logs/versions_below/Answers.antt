use Rattle.tg_law_replies.proofs.History.Versions.{versions_below}
use Rattle.tg_law_replies.proofs.laws_of_history.logs.versions_below.Goals as goal

pub returns : goal.returns
returns g c = versions_below _
