use Rattle.tg_law_programs.proofs.Sessions.Holding.{nodes_hold}
use Rattle.tg_law_programs.proofs.laws_of_sessions.nodes_hold.Goals as goal

pub returns : goal.returns
returns g = nodes_hold
