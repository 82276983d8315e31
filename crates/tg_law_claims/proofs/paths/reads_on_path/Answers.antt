use Rattle.tg_law_claims.proofs.Playing.Roads.{reads_on_path}
use Rattle.tg_law_claims.proofs.paths.reads_on_path.Goals as goal

pub returns : goal.returns
returns g = reads_on_path
