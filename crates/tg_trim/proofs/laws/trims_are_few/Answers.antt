use Rattle.tg_trim.proofs.Few.{trims_are_few}
use Rattle.tg_trim.proofs.laws.trims_are_few.Goals as goal

pub returns : goal.returns
returns c = trims_are_few
