use Rattle.tg_law_finish.proofs.Tallies.Legal.{commit_is_told}
use Rattle.tg_law_finish.proofs.laws_of_tallies.commit_is_told.Goals as goal

pub returns : goal.returns
returns g = commit_is_told
