use Rattle.tg_client_state.proofs.Nears.{sync_stays_near}
use Rattle.tg_client_state.proofs.laws.sync_stays_near.Goals as goal

pub returns : goal.returns
returns c = sync_stays_near
