use Rattle.tg_law_programs.proofs.Transcripts.Judging.{each_audited}
use Rattle.tg_law_programs.proofs.audits.audits_say_legal.Goals as goal

pub returns : goal.returns
returns g = each_audited
