use Rattle.tg_trim.proofs.Few.{trims_wait}
use Rattle.tg_trim.proofs.laws.trims_wait.Goals as goal

pub returns : goal.returns
returns c = trims_wait
