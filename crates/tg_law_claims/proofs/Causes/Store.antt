-- What holds of every run of the store.
use Rattle.tg_any.specs.AllKinds.{all_kinds}
use Rattle.tg_protocol.specs.Runs.{Always}
use Rattle.tg_protocol.specs.Causes.{AbortsLeast, DirectoryTrue}
use Rattle.tg_law_claims.proofs.Causes.Aborts.{aborts_least}
use Rattle.tg_law_claims.proofs.Causes.Directories.{directory_is}
use Rattle.tg_law_headline.proofs.Runs.Finding.{ends, found}

pub directories_true : Always all_kinds (DirectoryTrue all_kinds)
directories_true h ms w r = directory_is all_kinds h ms w r (found h ms w r) (ends h ms w r)

pub aborts_name_least : Always all_kinds (AbortsLeast all_kinds)
aborts_name_least h ms w r = aborts_least all_kinds h ms w r (found h ms w r) (ends h ms w r)
