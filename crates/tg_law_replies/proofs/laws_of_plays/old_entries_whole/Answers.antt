use Rattle.tg_law_replies.proofs.Plays.Old.{old_entries_whole}
use Rattle.tg_law_replies.proofs.laws_of_plays.old_entries_whole.Goals as goal

pub returns : goal.returns
returns g c = old_entries_whole _
