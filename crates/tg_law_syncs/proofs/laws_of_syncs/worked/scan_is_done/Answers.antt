use Rattle.tg_law_syncs.proofs.Syncs.Scanned.{worked_scan}
use Rattle.tg_law_syncs.proofs.laws_of_syncs.worked.scan_is_done.Goals as goal

pub returns : goal.returns
returns c = worked_scan
