use Rattle.tg_law_programs.proofs.Sessions.Orders.{sessions_make_a_run}
use Rattle.tg_law_programs.proofs.laws_of_sessions.sessions_make_a_run.Goals as goal

pub returns : goal.returns
returns g c = sessions_make_a_run _
