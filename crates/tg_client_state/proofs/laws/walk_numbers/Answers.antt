use Rattle.tg_client_state.proofs.Walks.{walk_numbers}
use Rattle.tg_client_state.proofs.laws.walk_numbers.Goals as goal

pub returns : goal.returns
returns c = walk_numbers
