-- Entries of the store's logs.
use Rattle.tg_any.specs.AllKinds.{all_kinds}
use Rattle.tg_law_headline.proofs.AllKinds.Touching.{kinds_touch_parts}
use Rattle.tg_law_walks.proofs.Checkpoints.Checkpoints.{entries_own}
use Rattle.tg_law_headline.specs.Legal.Store.{StoreEntriesOwn}

pub store_entries_own : StoreEntriesOwn
store_entries_own = entries_own all_kinds kinds_touch_parts
