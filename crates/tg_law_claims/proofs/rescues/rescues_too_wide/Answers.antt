use Rattle.tg_law_claims.proofs.Answers.Store.{rescues_too_wide}
use Rattle.tg_law_claims.proofs.rescues.rescues_too_wide.Goals as goal

pub returns : goal.returns
returns g = rescues_too_wide
