use Rattle.tg_law_headline.proofs.AllKinds.Touching.{kinds_touch_parts}
use Rattle.tg_law_headline.proofs.laws_of_kinds.kinds_touch_parts.Goals as goal

pub returns : goal.returns
returns g = kinds_touch_parts
