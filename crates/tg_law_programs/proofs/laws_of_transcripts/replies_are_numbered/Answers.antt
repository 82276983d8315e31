use Rattle.tg_law_programs.proofs.Transcripts.Replies.{replies_are_numbered}
use Rattle.tg_law_programs.proofs.laws_of_transcripts.replies_are_numbered.Goals as goal

pub returns : goal.returns
returns g = replies_are_numbered
