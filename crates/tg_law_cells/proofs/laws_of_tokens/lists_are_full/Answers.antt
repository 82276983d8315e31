use Rattle.tg_law_cells.proofs.Tokens.Listing.{lists_are_full}
use Rattle.tg_law_cells.proofs.laws_of_tokens.lists_are_full.Goals as goal

pub returns : goal.returns
returns g c = lists_are_full _
