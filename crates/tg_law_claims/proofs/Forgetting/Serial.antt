-- A legal run is right, whatever its transactions do.
use Rattle.tg_protocol.specs.Holding.{SerialFirst}
use Rattle.tg_protocol.specs.Runs.{Always}
use Rattle.tg_any.specs.AllKinds.{all_kinds}
use Rattle.tg_law_headline.proofs.Runs.Holding.{runs_hold}

pub serial_first : Always all_kinds (SerialFirst all_kinds)
serial_first h ms w r serial = let l = (runs_hold h ms w r).headline.legal in record { answers = l.answers; commits = l.commits; entries = l.entries }
