use Rattle.tg_law_layouts.proofs.Steps.Sequencers.{issues_once}
use Rattle.tg_law_layouts.proofs.laws_of_steps.issues_once.Goals as goal

pub returns : goal.returns
returns c = issues_once
