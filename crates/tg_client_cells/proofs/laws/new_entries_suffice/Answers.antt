use Rattle.tg_client_cells.proofs.Played.{new_played}
use Rattle.tg_client_cells.proofs.laws.new_entries_suffice.Goals as goal

pub returns : goal.returns
returns g c = new_played _
