use Rattle.tg_stream.proofs.Few.{starts_are_few}
use Rattle.tg_stream.proofs.laws.starts_are_few.Goals as goal

pub returns : goal.returns
returns c = starts_are_few
