use Rattle.tg_law_claims.proofs.Playing.Roads.{reads_on_path_where}
use Rattle.tg_law_claims.proofs.paths.reads_on_path_where.Goals as goal

pub returns : goal.returns
returns g c = reads_on_path_where _
