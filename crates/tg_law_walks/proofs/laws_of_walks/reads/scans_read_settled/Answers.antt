use Rattle.tg_law_walks.proofs.Walks.Reading.{scans_read_settled}
use Rattle.tg_law_walks.proofs.laws_of_walks.reads.scans_read_settled.Goals as goal

pub returns : goal.returns
returns g c = scans_read_settled _
