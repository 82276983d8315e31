use Rattle.tg_law_syncs.proofs.Follow.Landing.{appends_stand}
use Rattle.tg_law_syncs.proofs.laws_of_follow.appends_land.Goals as goal

pub returns : goal.returns
returns g c = appends_stand _
