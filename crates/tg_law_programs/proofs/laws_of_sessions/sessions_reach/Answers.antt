use Rattle.tg_law_programs.proofs.Sessions.Reaching.{sessions_reach}
use Rattle.tg_law_programs.proofs.laws_of_sessions.sessions_reach.Goals as goal

pub returns : goal.returns
returns g c = sessions_reach _
