use Rattle.tg_law_headline.proofs.Floors.Named.{tokens_name}
use Rattle.tg_law_headline.proofs.laws_of_floors.tokens_name.Goals as goal

pub returns : goal.returns
returns g c = tokens_name _
