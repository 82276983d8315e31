use Rattle.tg_law_numbers.proofs.Counting.{all_count_one}
use Rattle.tg_law_numbers.proofs.counts_rise_by_one.Goals as goal

pub returns : goal.returns
returns g c = all_count_one _
