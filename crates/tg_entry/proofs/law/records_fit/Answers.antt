use Rattle.tg_entry.proofs.Fits.{records_fit}
use Rattle.tg_entry.proofs.law.records_fit.Goals as goal

pub returns : goal.returns
returns c = records_fit
