use Rattle.tg_law_replies.proofs.Plays.Kept.{starts_sound}
use Rattle.tg_law_replies.proofs.laws_of_plays.starts_sound.Goals as goal

pub returns : goal.returns
returns g c = starts_sound _
