use Rattle.tg_law_headline.proofs.Store.Steps.{store_steps_rest}
use Rattle.tg_law_headline.proofs.laws_of_store.store_steps_rest.Goals as goal

pub returns : goal.returns
returns g = store_steps_rest
