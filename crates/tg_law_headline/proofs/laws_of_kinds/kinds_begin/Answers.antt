use Rattle.tg_law_headline.proofs.AllKinds.Holds.{kinds_begin}
use Rattle.tg_law_headline.proofs.laws_of_kinds.kinds_begin.Goals as goal

pub returns : goal.returns
returns g = kinds_begin
