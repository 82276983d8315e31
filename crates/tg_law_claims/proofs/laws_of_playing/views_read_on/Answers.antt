use Rattle.tg_law_claims.proofs.Playing.Reading.{views_read_on}
use Rattle.tg_law_claims.proofs.laws_of_playing.views_read_on.Goals as goal

pub returns : goal.returns
returns g c = views_read_on _
