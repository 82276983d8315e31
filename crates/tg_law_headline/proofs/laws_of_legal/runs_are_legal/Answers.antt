use Rattle.tg_law_headline.proofs.Legal.Legal.{runs_are_legal}
use Rattle.tg_law_headline.proofs.laws_of_legal.runs_are_legal.Goals as goal

pub returns : goal.returns
returns g c = runs_are_legal _ (λ s op q h. g.met.K.Kind.apart s op q h)
