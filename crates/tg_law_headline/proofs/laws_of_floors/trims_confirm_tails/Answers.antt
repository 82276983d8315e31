use Rattle.tg_law_headline.proofs.Floors.Tails.{trims_confirm_tails}
use Rattle.tg_law_headline.proofs.laws_of_floors.trims_confirm_tails.Goals as goal

pub returns : goal.returns
returns g c = trims_confirm_tails _
