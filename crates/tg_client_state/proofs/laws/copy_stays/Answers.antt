use Rattle.tg_client_state.proofs.NearNumbers.{copy_stays}
use Rattle.tg_client_state.proofs.laws.copy_stays.Goals as goal

pub returns : goal.returns
returns c = copy_stays
