use Rattle.tg_chain.proofs.Learnt.{learn_waits}
use Rattle.tg_chain.proofs.laws.learn_waits.Goals as goal

pub returns : goal.returns
returns c = learn_waits
