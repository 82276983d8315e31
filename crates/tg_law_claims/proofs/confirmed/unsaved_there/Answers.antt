use Rattle.tg_law_claims.proofs.Answers.Store.{unsaved_there}
use Rattle.tg_law_claims.proofs.confirmed.unsaved_there.Goals as goal

pub returns : goal.returns
returns g = unsaved_there
