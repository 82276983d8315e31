use Rattle.tg_law_numbers.proofs.Drawing.{draw_few}
use Rattle.tg_law_numbers.proofs.draws_are_few.Goals as goal

pub returns : goal.returns
returns g c = draw_few _
