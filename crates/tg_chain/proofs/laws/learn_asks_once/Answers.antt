use Rattle.tg_chain.proofs.Learnt.{learn_asks_once}
use Rattle.tg_chain.proofs.laws.learn_asks_once.Goals as goal

pub returns : goal.returns
returns c = learn_asks_once
