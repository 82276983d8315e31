use Rattle.tg_client_state.proofs.Trims.{trim_numbers}
use Rattle.tg_client_state.proofs.laws.trim_numbers.Goals as goal

pub returns : goal.returns
returns c = trim_numbers
