use Rattle.tg_copy.proofs.Kept.{copies_keep}
use Rattle.tg_copy.proofs.laws.copies_keep.Goals as goal

pub returns : goal.returns
returns c = copies_keep
