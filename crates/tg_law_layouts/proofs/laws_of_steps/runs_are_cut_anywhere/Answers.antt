use Rattle.tg_law_layouts.proofs.Steps.Worlds.{runs_are_cut_anywhere}
use Rattle.tg_law_layouts.proofs.laws_of_steps.runs_are_cut_anywhere.Goals as goal

pub returns : goal.returns
returns g c = runs_are_cut_anywhere _
