use Rattle.tg_law_cells.proofs.Places.Late.{late_pages}
use Rattle.tg_law_cells.proofs.laws_of_places.late_pages.Goals as goal

pub returns : goal.returns
returns g c = late_pages _
