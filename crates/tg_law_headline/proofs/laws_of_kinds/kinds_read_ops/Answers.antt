use Rattle.tg_law_headline.proofs.AllKinds.Spelled.{kinds_read_ops}
use Rattle.tg_law_headline.proofs.laws_of_kinds.kinds_read_ops.Goals as goal

pub returns : goal.returns
returns g = kinds_read_ops
