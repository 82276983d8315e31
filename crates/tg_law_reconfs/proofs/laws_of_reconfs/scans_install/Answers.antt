use Rattle.tg_law_reconfs.proofs.ScanEnds.{scans_install}
use Rattle.tg_law_reconfs.proofs.laws_of_reconfs.scans_install.Goals as goal

pub returns : goal.returns
returns g = scans_install
