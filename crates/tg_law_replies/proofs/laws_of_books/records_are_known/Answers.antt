use Rattle.tg_law_replies.proofs.Books.Known.{records_are_known}
use Rattle.tg_law_replies.proofs.laws_of_books.records_are_known.Goals as goal

pub returns : goal.returns
returns g c = records_are_known _
