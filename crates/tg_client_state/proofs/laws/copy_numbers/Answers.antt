use Rattle.tg_client_state.proofs.Copies.{copy_numbers}
use Rattle.tg_client_state.proofs.laws.copy_numbers.Goals as goal

pub returns : goal.returns
returns c = copy_numbers
