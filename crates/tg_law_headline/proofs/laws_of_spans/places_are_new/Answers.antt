use Rattle.tg_law_headline.proofs.Spans.Places.{places_are_new}
use Rattle.tg_law_headline.proofs.laws_of_spans.places_are_new.Goals as goal

pub returns : goal.returns
returns g c = places_are_new _
