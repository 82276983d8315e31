use Rattle.tg_law_headline.proofs.Store.States.{store_reads_ops}
use Rattle.tg_law_headline.proofs.laws_of_store.store_reads_ops.Goals as goal

pub returns : goal.returns
returns g = store_reads_ops
