use Rattle.tg_law_programs.proofs.Lives.Recording.{each_live_reaches, live_reaches}
use Rattle.tg_law_programs.proofs.laws_of_lives.lives_reach.Goals as goal

pub returns : goal.returns
returns g = record { within = live_reaches; each = each_live_reaches }
