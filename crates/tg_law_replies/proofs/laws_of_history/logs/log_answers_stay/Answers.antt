use Rattle.tg_law_replies.proofs.History.States.{log_answers_stay}
use Rattle.tg_law_replies.proofs.laws_of_history.logs.log_answers_stay.Goals as goal

pub returns : goal.returns
returns g c = log_answers_stay _ (λ s op q h. g.met.K.Kind.apart s op q h)
