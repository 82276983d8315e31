use Rattle.tg_law_layouts.proofs.Moves.Scripts.{scripts_are_runs}
use Rattle.tg_law_layouts.proofs.laws_of_moves.scripts_are_runs.Goals as goal

pub returns : goal.returns
returns g c = scripts_are_runs _
