use Rattle.tg_law_programs.proofs.Transcripts.Histories.{histories_fit}
use Rattle.tg_law_programs.proofs.laws_of_transcripts.histories_fit.Goals as goal

pub returns : goal.returns
returns g = histories_fit
