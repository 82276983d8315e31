use Rattle.tg_append.proofs.AppendCounts.{append_requests_are_few}
use Rattle.tg_append.proofs.laws.append_requests_are_few.Goals as goal

pub returns : goal.returns
returns c = append_requests_are_few
