use Rattle.tg_law_claims.proofs.Playing.Steps.{views_fall_at_trims}
use Rattle.tg_law_claims.proofs.laws_of_playing.views_fall_at_trims.Goals as goal

pub returns : goal.returns
returns g c = views_fall_at_trims _
