use Rattle.tg_law_headline.proofs.Spans.Snapshots.{snapshots_are_new}
use Rattle.tg_law_headline.proofs.laws_of_spans.snapshots_are_new.Goals as goal

pub returns : goal.returns
returns g c = snapshots_are_new _
