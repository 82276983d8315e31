use Rattle.std.proofs.Common.{◌∙◌, ℕ, Option, sym, subst}
use Rattle.tg_live.specs.Matching.{with_delivered}
use Rattle.tg_live.specs.Books.{IsBook, found}
use Rattle.tg_live.proofs.StepsMatch.{answered, book_arrives}
use Rattle.tg_live.proofs.book.Book.arrived.Goals as goal

pub returns-clause-number : goal.returns-clause-number
returns-clause-number c = λ sent delivered h.
    c.deliver.ensures.number ∙ answered sent delivered c.args.node c.args.datagram.now (found c.args.self.now.copies.entries c.args.datagram.now) (h.kept c.args.datagram.now)

pub returns-clause-book : goal.returns-clause-book
returns-clause-book c = λ sent delivered h.
    subst (λ (r : Option ℕ). IsBook (record { copies = c.deliver.new.copies }) sent (with_delivered r delivered)) (sym c.deliver.ensures.number)
    (book_arrives c.args.self.now (record { copies = c.deliver.new.copies }) c.args.node c.args.datagram.now c.deliver.ensures.after sent delivered h)
