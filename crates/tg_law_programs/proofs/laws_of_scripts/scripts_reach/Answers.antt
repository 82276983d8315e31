use Rattle.tg_law_programs.proofs.Scripts.Reaching.{each_script_reaches}
use Rattle.tg_law_programs.proofs.laws_of_scripts.scripts_reach.Goals as goal

pub returns : goal.returns
returns g = record { within = λ s is within. each_script_reaches s is; each = each_script_reaches }
