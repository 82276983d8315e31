use Rattle.tg_live.proofs.StepsMatch.{book_notes, book_same}
use Rattle.tg_live.proofs.book.Book.note.Goals as goal

pub returns-clause-noted : goal.returns-clause-noted
returns-clause-noted c = λ sent delivered h next goes.
    book_notes c.put.result c.args.self.now (record { copies = c.put.new.copies }) c.args.number c.args.to c.args.datagram.now c.put.ensures.ok sent delivered h next goes

pub returns-clause-kept : goal.returns-clause-kept
returns-clause-kept c = λ sent delivered h. book_same c.put.result c.args.self.now (record { copies = c.put.new.copies }) c.put.ensures.err sent delivered h
