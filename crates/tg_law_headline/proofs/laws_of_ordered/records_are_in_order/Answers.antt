use Rattle.tg_law_headline.proofs.Ordered.Order.{records_are_in_order}
use Rattle.tg_law_headline.proofs.laws_of_ordered.records_are_in_order.Goals as goal

pub returns : goal.returns
returns g c = records_are_in_order _
