use Rattle.tg_law_walks.proofs.Walks.Syncs.{syncs_keep_streams}
use Rattle.tg_law_walks.proofs.laws_of_walks.syncs_keep_streams.Goals as goal

pub returns : goal.returns
returns c = syncs_keep_streams
