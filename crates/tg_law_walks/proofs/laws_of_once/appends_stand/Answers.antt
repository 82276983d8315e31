use Rattle.tg_law_walks.proofs.Once.Known.{appends_stand}
use Rattle.tg_law_walks.proofs.laws_of_once.appends_stand.Goals as goal

pub returns : goal.returns
returns g c = appends_stand _
