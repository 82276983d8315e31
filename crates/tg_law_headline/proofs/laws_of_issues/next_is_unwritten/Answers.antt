use Rattle.tg_law_headline.proofs.Issues.Unwritten.{next_is_unwritten}
use Rattle.tg_law_headline.proofs.laws_of_issues.next_is_unwritten.Goals as goal

pub returns : goal.returns
returns g c = next_is_unwritten _
