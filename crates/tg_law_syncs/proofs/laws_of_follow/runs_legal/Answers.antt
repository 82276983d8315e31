use Rattle.tg_law_syncs.proofs.Follow.Legal.{runs_legal}
use Rattle.tg_law_syncs.proofs.laws_of_follow.runs_legal.Goals as goal

pub returns : goal.returns
returns g c = runs_legal _ (λ s op q h. g.met.K.Kind.apart s op q h)
