use Rattle.tg_law_cells.proofs.Places.Tails.{new_pages_follow}
use Rattle.tg_law_cells.proofs.laws_of_places.new_pages_follow.Goals as goal

pub returns : goal.returns
returns g c = new_pages_follow _
