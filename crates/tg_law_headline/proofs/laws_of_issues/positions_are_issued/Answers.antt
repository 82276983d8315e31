use Rattle.tg_law_headline.proofs.Issues.Positions.{positions_are_issued}
use Rattle.tg_law_headline.proofs.laws_of_issues.positions_are_issued.Goals as goal

pub returns : goal.returns
returns g c = positions_are_issued _
