use Rattle.tg_reconf.proofs.Ending.{latest_ends_as_told}
use Rattle.tg_reconf.proofs.laws.latest_ends_as_told.Goals as goal

pub returns : goal.returns
returns c = latest_ends_as_told
