use Rattle.tg_chain.proofs.Learnt.{learns_newer}
use Rattle.tg_chain.proofs.laws.learns_newer.Goals as goal

pub returns : goal.returns
returns c = learns_newer
