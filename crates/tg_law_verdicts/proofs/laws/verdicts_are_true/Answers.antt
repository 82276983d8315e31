use Rattle.tg_law_verdicts.proofs.Legality.{verdicts_are_true}
use Rattle.tg_law_verdicts.proofs.laws.verdicts_are_true.Goals as goal

pub returns : goal.returns
returns g c = verdicts_are_true _
