use Rattle.tg_append.proofs.AppendCounts.{append_resumes_with_few}
use Rattle.tg_append.proofs.laws.append_resumes_with_few.Goals as goal

pub returns : goal.returns
returns c = append_resumes_with_few
