use Rattle.tg_client_state.proofs.Nears.{append_stays_near}
use Rattle.tg_client_state.proofs.laws.append_stays_near.Goals as goal

pub returns : goal.returns
returns c = append_stays_near
