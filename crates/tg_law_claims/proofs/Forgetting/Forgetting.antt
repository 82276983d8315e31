-- What is claimed of forgetting holds of the store.
use Rattle.tg_any.specs.AllKinds.{all_kinds}
use Rattle.tg_protocol.specs.Claims.{Forgetting}
use Rattle.tg_law_headline.proofs.Runs.Holding.{runs_hold}
use Rattle.tg_law_claims.proofs.Forgetting.Floors.{floors_stay}
use Rattle.tg_law_claims.proofs.Forgetting.Marks.{marks_rest}
use Rattle.tg_law_claims.proofs.Forgetting.Trimmed.{trims_spare}

pub forgetting_holds : Forgetting all_kinds
forgetting_holds = record { checkpoints = λ h ms w r. (runs_hold h ms w r).checkpoints; floors = floors_stay; trims = trims_spare; marks = marks_rest }
