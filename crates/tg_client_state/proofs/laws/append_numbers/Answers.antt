use Rattle.tg_client_state.proofs.Appends.{append_numbers}
use Rattle.tg_client_state.proofs.laws.append_numbers.Goals as goal

pub returns : goal.returns
returns c = append_numbers
