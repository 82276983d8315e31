use Rattle.tg_entry.proofs.Linked.{linked_fit}
use Rattle.tg_entry.proofs.law.linked_fit.Goals as goal

pub returns : goal.returns
returns c = linked_fit
