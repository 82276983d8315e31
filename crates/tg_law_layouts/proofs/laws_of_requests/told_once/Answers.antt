use Rattle.tg_law_layouts.proofs.Requests.Starts.{told_once}
use Rattle.tg_law_layouts.proofs.laws_of_requests.told_once.Goals as goal

pub returns : goal.returns
returns g c = told_once _
