-- Answers and their causes, in every run of the store.
use Rattle.tg_any.specs.AllKinds.{all_kinds}
use Rattle.tg_protocol.specs.Claims.{CausesHold}
use Rattle.tg_law_claims.proofs.Causes.Keeping.{refusals_keep}
use Rattle.tg_law_claims.proofs.Causes.Store.{directories_true, aborts_name_least}
use Rattle.tg_law_claims.proofs.Answers.Refused.{refusals_true}
use Rattle.tg_law_claims.proofs.Answers.Store.{causes_refuse, nones_true, unsure_true}

pub causes_hold : CausesHold all_kinds
causes_hold = record {
  directories = directories_true;
  refusals = refusals_true;
  refuse = causes_refuse;
  aborts = aborts_name_least;
  unsure = unsure_true;
  nones = nones_true;
  keep = refusals_keep all_kinds;
}
