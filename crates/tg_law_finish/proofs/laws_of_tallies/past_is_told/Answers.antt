use Rattle.tg_law_finish.proofs.Tallies.Past.{past_is_told}
use Rattle.tg_law_finish.proofs.laws_of_tallies.past_is_told.Goals as goal

pub returns : goal.returns
returns g = past_is_told
