use Rattle.tg_stream.proofs.Reading.{asks_unknown}
use Rattle.tg_stream.proofs.laws.asks_unknown.Goals as goal

pub returns : goal.returns
returns c = asks_unknown
