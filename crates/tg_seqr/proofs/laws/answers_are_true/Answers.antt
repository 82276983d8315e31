use Rattle.tg_seqr.proofs.Telling.{answers_are_true}
use Rattle.tg_seqr.proofs.laws.answers_are_true.Goals as goal

pub returns : goal.returns
returns c = answers_are_true
