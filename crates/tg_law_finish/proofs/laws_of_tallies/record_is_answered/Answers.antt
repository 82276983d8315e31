use Rattle.tg_law_finish.proofs.Tallies.Paging.{page_settles}
use Rattle.tg_law_finish.proofs.laws_of_tallies.record_is_answered.Goals as goal

pub returns : goal.returns
returns g = page_settles
