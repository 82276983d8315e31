use Rattle.tg_law_texts.proofs.Replays.{reached, true_run, fits}
use Rattle.tg_law_texts.proofs.Changed.{nowhere_isnt, late_isnt}
use Rattle.tg_law_texts.proofs.laws.a_script_reaches.Goals as goal

pub returns : goal.returns
returns g = record { reached = reached; true_run = true_run; fits = fits; nowhere = nowhere_isnt; late = late_isnt }
