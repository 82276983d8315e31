use Rattle.tg_law_layouts.proofs.Agreement.Contests.{one_is_chosen}
use Rattle.tg_law_layouts.proofs.laws_of_agreement.one_is_chosen.Goals as goal

pub returns : goal.returns
returns c = one_is_chosen
