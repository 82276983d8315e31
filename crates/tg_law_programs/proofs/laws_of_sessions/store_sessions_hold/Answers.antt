use Rattle.tg_law_programs.proofs.Sessions.Holding.{store_sessions_hold}
use Rattle.tg_law_programs.proofs.laws_of_sessions.store_sessions_hold.Goals as goal

pub returns : goal.returns
returns g = store_sessions_hold
