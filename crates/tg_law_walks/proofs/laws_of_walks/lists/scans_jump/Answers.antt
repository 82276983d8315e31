use Rattle.tg_law_walks.proofs.Walks.Listing.{scans_jump}
use Rattle.tg_law_walks.proofs.laws_of_walks.lists.scans_jump.Goals as goal

pub returns : goal.returns
returns c = scans_jump
