use Rattle.tg_client_state.proofs.Reconfs.{reconf_numbers}
use Rattle.tg_client_state.proofs.laws.reconf_numbers.Goals as goal

pub returns : goal.returns
returns c = reconf_numbers
