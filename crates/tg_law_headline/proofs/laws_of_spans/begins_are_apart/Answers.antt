use Rattle.tg_law_headline.proofs.Spans.Beginnings.{begins_are_apart}
use Rattle.tg_law_headline.proofs.laws_of_spans.begins_are_apart.Goals as goal

pub returns : goal.returns
returns g c = begins_are_apart _
