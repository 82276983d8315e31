use Rattle.tg_law_replies.proofs.Books.Booked.{books_are_kept}
use Rattle.tg_law_replies.proofs.laws_of_books.books_are_kept.Goals as goal

pub returns : goal.returns
returns g c = books_are_kept _
