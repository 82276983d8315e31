use Rattle.tg_law_headline.proofs.Headline.Store.{store_runs_legal_by_steps}
use Rattle.tg_law_headline.proofs.laws_of_headline.store_runs_legal_by_steps.Goals as goal

pub returns : goal.returns
returns g = store_runs_legal_by_steps
