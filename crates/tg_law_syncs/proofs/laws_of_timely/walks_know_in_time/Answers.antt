use Rattle.tg_law_syncs.proofs.Timely.Walked.{walks_know_in_time}
use Rattle.tg_law_syncs.proofs.laws_of_timely.walks_know_in_time.Goals as goal

pub returns : goal.returns
returns g c = walks_know_in_time _
