use Rattle.tg_law_walks.proofs.Walks.Listing.{scans_begin}
use Rattle.tg_law_walks.proofs.laws_of_walks.lists.scans_begin.Goals as goal

pub returns : goal.returns
returns c = scans_begin
