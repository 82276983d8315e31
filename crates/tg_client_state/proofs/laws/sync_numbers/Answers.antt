use Rattle.tg_client_state.proofs.Syncs.{sync_numbers}
use Rattle.tg_client_state.proofs.laws.sync_numbers.Goals as goal

pub returns : goal.returns
returns c = sync_numbers
