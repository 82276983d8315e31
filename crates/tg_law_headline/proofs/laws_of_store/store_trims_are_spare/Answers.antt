use Rattle.tg_law_headline.proofs.Store.Steps.{store_trims_are_spare}
use Rattle.tg_law_headline.proofs.laws_of_store.store_trims_are_spare.Goals as goal

pub returns : goal.returns
returns g = store_trims_are_spare
