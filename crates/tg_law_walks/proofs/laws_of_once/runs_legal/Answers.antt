use Rattle.tg_law_walks.proofs.Once.Known.{runs_legal}
use Rattle.tg_law_walks.proofs.laws_of_once.runs_legal.Goals as goal

pub returns : goal.returns
returns g c = runs_legal _ (λ s op q h. g.met.K.Kind.apart s op q h)
