use Rattle.tg_law_finish.proofs.Tallies.Books.{commit_is_booked}
use Rattle.tg_law_finish.proofs.laws_of_tallies.commit_is_booked.Goals as goal

pub returns : goal.returns
returns g = commit_is_booked
