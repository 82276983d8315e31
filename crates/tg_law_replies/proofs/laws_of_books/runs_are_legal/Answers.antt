use Rattle.tg_law_replies.proofs.Books.Lawful.{runs_are_legal}
use Rattle.tg_law_replies.proofs.laws_of_books.runs_are_legal.Goals as goal

pub returns : goal.returns
returns g c = runs_are_legal _ (λ s op q h. g.met.K.Kind.apart s op q h)
