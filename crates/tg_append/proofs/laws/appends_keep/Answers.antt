use Rattle.tg_append.proofs.AppendKept.{appends_keep}
use Rattle.tg_append.proofs.laws.appends_keep.Goals as goal

pub returns : goal.returns
returns c = appends_keep
