use Rattle.tg_law_walks.proofs.Once.Once.{pages_have_one_position}
use Rattle.tg_law_walks.proofs.laws_of_once.pages_have_one_position.Goals as goal

pub returns : goal.returns
returns g c = pages_have_one_position _
