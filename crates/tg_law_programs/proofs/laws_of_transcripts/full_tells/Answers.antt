use Rattle.tg_law_programs.proofs.Transcripts.Limits.{full_tells}
use Rattle.tg_law_programs.proofs.laws_of_transcripts.full_tells.Goals as goal

pub returns : goal.returns
returns g = full_tells
