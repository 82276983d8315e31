use Rattle.tg_law_layouts.proofs.Requests.Starts.{seals_bound}
use Rattle.tg_law_layouts.proofs.laws_of_requests.seals_bound.Goals as goal

pub returns : goal.returns
returns g c = seals_bound _
