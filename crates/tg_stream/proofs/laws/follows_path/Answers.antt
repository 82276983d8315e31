use Rattle.tg_stream.proofs.Paths.{follows_path}
use Rattle.tg_stream.proofs.laws.follows_path.Goals as goal

pub returns : goal.returns
returns c = follows_path
