use Rattle.tg_law_replies.proofs.Books.Whose.{replies_are_known}
use Rattle.tg_law_replies.proofs.laws_of_books.replies_are_known.Goals as goal

pub returns : goal.returns
returns g c = replies_are_known _
