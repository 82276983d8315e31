use Rattle.tg_law_programs.proofs.Headline.Holding.{scripts_hold}
use Rattle.tg_law_programs.proofs.laws_of_headline.scripts_hold.Goals as goal

pub returns : goal.returns
returns g = scripts_hold
