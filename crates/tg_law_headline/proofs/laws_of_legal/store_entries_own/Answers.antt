use Rattle.tg_law_headline.proofs.Legal.Store.{store_entries_own}
use Rattle.tg_law_headline.proofs.laws_of_legal.store_entries_own.Goals as goal

pub returns : goal.returns
returns g = store_entries_own
