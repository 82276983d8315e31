use Rattle.tg_law_texts.proofs.Sessions.{hold, idle_makes_none, unsent_makes_none, stranger_makes_none}
use Rattle.tg_law_texts.proofs.laws.sessions_hold.Goals as goal

pub returns : goal.returns
returns g = record { holds = hold; left_out = idle_makes_none; unsent = unsent_makes_none; stranger = stranger_makes_none }
