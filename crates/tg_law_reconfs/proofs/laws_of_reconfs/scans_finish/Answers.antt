use Rattle.tg_law_reconfs.proofs.ScanEnds.{scans_finish}
use Rattle.tg_law_reconfs.proofs.laws_of_reconfs.scans_finish.Goals as goal

pub returns : goal.returns
returns g = scans_finish
