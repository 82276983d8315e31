use Rattle.tg_law_headline.proofs.Ordered.Order.{runs_are_in_order}
use Rattle.tg_law_headline.proofs.laws_of_ordered.runs_are_in_order.Goals as goal

pub returns : goal.returns
returns g c = runs_are_in_order _
