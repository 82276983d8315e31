use Rattle.tg_law_replies.proofs.Plays.Answers.{answers_stay}
use Rattle.tg_law_replies.proofs.laws_of_plays.answers_stay.Goals as goal

pub returns : goal.returns
returns g c = answers_stay _ (λ s op q h. g.met.K.Kind.apart s op q h)
