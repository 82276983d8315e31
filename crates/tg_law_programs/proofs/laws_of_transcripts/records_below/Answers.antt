use Rattle.tg_law_programs.proofs.Transcripts.Told.{records_below}
use Rattle.tg_law_programs.proofs.laws_of_transcripts.records_below.Goals as goal

pub returns : goal.returns
returns g = records_below
