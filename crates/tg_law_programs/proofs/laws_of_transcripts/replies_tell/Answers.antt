use Rattle.tg_law_programs.proofs.Transcripts.Replies.{replies_tell}
use Rattle.tg_law_programs.proofs.laws_of_transcripts.replies_tell.Goals as goal

pub returns : goal.returns
returns g = replies_tell
