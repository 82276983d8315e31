use Rattle.tg_law_reconfs.proofs.ScanSettling.{scans_settle}
use Rattle.tg_law_reconfs.proofs.laws_of_reconfs.scans_are_answered.Goals as goal

pub returns : goal.returns
returns g = scans_settle
