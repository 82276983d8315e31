use Rattle.tg_law_programs.proofs.Headline.Holding.{lives_hold}
use Rattle.tg_law_programs.proofs.laws_of_headline.lives_hold.Goals as goal

pub returns : goal.returns
returns g = lives_hold
