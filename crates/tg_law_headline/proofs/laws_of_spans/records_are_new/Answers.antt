use Rattle.tg_law_headline.proofs.Spans.Records.{records_are_new}
use Rattle.tg_law_headline.proofs.laws_of_spans.records_are_new.Goals as goal

pub returns : goal.returns
returns g c = records_are_new _
