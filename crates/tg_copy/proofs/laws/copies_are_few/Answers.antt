use Rattle.tg_copy.proofs.Few.{copies_are_few}
use Rattle.tg_copy.proofs.laws.copies_are_few.Goals as goal

pub returns : goal.returns
returns c = copies_are_few
