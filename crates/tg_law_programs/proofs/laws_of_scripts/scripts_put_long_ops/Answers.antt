use Rattle.tg_law_programs.proofs.Scripts.Long.{long_script, op_is_long, long_lawful}
use Rattle.tg_law_programs.proofs.laws_of_scripts.scripts_put_long_ops.Goals as goal

pub returns : goal.returns
returns g = record { script = long_script; long = op_is_long; lawful = long_lawful }
