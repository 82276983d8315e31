use Rattle.tg_law_replies.proofs.Replies.Legality.{telling_is_legal}
use Rattle.tg_law_replies.proofs.laws_of_replies.telling_is_legal.Goals as goal

pub returns : goal.returns
returns g c = telling_is_legal _ (λ s op q h. g.met.K.Kind.apart s op q h)
