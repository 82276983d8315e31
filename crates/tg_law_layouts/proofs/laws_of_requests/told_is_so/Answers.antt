use Rattle.tg_law_layouts.proofs.Requests.Starts.{told_is_so}
use Rattle.tg_law_layouts.proofs.laws_of_requests.told_is_so.Goals as goal

pub returns : goal.returns
returns g c = told_is_so _
