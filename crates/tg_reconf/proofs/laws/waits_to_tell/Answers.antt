use Rattle.tg_reconf.proofs.Waiting.{waits_to_tell}
use Rattle.tg_reconf.proofs.laws.waits_to_tell.Goals as goal

pub returns : goal.returns
returns c = waits_to_tell
