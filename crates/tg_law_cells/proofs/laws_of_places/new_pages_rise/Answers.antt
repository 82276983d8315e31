use Rattle.tg_law_cells.proofs.Places.Past.{new_pages_rise}
use Rattle.tg_law_cells.proofs.laws_of_places.new_pages_rise.Goals as goal

pub returns : goal.returns
returns g c = new_pages_rise _
