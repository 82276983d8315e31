use Rattle.tg_law_headline.proofs.Alike.Told.{alike_rows}
use Rattle.tg_law_headline.proofs.laws_of_alike.alike_rows.Goals as goal

pub returns : goal.returns
returns g c = alike_rows _
