use Rattle.tg_law_programs.proofs.Transcripts.Recorded.{each_live_audited}
use Rattle.tg_law_programs.proofs.audits.live_audits_say_legal.Goals as goal

pub returns : goal.returns
returns g = each_live_audited
