use Rattle.tg_law_claims.proofs.Answers.Refused.{refusals_true}
use Rattle.tg_law_claims.proofs.causes_of_answers.refusals_true.Goals as goal

pub returns : goal.returns
returns g = refusals_true
