use Rattle.tg_law_headline.proofs.Store.States.{store_has_states}
use Rattle.tg_law_headline.proofs.laws_of_store.store_has_states.Goals as goal

pub returns : goal.returns
returns g = store_has_states
