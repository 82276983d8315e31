use Rattle.tg_law_sizes.proofs.Counting.{counts_stay_low}
use Rattle.tg_law_sizes.proofs.numbers.counts_stay_low.Goals as goal

pub returns : goal.returns
returns g c = counts_stay_low _
