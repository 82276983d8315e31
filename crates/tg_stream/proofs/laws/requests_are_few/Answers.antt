use Rattle.tg_stream.proofs.Few.{requests_are_few}
use Rattle.tg_stream.proofs.laws.requests_are_few.Goals as goal

pub returns : goal.returns
returns c = requests_are_few
