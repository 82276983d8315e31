use Rattle.tg_law_layouts.proofs.Requests.Starts.{numbers_are_unique}
use Rattle.tg_law_layouts.proofs.laws_of_requests.numbers_are_unique.Goals as goal

pub returns : goal.returns
returns g c = numbers_are_unique _
