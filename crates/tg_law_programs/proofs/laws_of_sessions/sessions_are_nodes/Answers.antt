use Rattle.tg_law_programs.proofs.Sessions.Wholes.{session_is_node}
use Rattle.tg_law_programs.proofs.laws_of_sessions.sessions_are_nodes.Goals as goal

pub returns : goal.returns
returns g = session_is_node
