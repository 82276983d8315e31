use Rattle.tg_law_programs.proofs.Transcripts.Replies.{each_fits, transcripts_fit}
use Rattle.tg_law_programs.proofs.laws_of_transcripts.transcripts_fit.Goals as goal

pub returns : goal.returns
returns g = record { within = transcripts_fit; each = each_fits }
