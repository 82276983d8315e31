use Rattle.tg_stream.proofs.Ending.{learns_by_fences}
use Rattle.tg_stream.proofs.laws.learns_by_fences.Goals as goal

pub returns : goal.returns
returns c = learns_by_fences
