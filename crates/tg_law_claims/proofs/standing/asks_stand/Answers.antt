use Rattle.tg_law_claims.proofs.Playing.OfStore.{asks_stand}
use Rattle.tg_law_claims.proofs.standing.asks_stand.Goals as goal

pub returns : goal.returns
returns g = asks_stand
