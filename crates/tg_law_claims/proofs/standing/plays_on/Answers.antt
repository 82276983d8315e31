use Rattle.tg_law_claims.proofs.Playing.OfStore.{plays_on}
use Rattle.tg_law_claims.proofs.standing.plays_on.Goals as goal

pub returns : goal.returns
returns g = plays_on
