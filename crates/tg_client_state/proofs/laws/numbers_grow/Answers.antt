use Rattle.tg_client_state.proofs.Grows.{numbers_grow}
use Rattle.tg_client_state.proofs.laws.numbers_grow.Goals as goal

pub returns : goal.returns
returns c = numbers_grow
