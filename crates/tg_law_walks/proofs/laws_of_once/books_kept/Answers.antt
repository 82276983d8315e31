use Rattle.tg_law_walks.proofs.Once.Known.{books_kept}
use Rattle.tg_law_walks.proofs.laws_of_once.books_kept.Goals as goal

pub returns : goal.returns
returns g c = books_kept _
