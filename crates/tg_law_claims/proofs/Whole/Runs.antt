-- The headline, and what stands beside it, in every run of the store.
use Rattle.tg_any.specs.AllKinds.{all_kinds}
use Rattle.tg_protocol.specs.Claims.{RunsHold}
use Rattle.tg_law_headline.proofs.Runs.Holding.{runs_hold}
use Rattle.tg_law_claims.proofs.Causes.StoreStalled.{stuck_true}

pub headline_holds : RunsHold all_kinds
headline_holds = record { holds = λ h ms w r. (runs_hold h ms w r).headline; rescues_stuck = stuck_true }
