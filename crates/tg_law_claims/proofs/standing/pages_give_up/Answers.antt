use Rattle.tg_law_claims.proofs.Playing.OfStore.{pages_give_up}
use Rattle.tg_law_claims.proofs.standing.pages_give_up.Goals as goal

pub returns : goal.returns
returns g = pages_give_up
