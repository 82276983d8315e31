use Rattle.tg_client_cells.proofs.Gathering.{known_below}
use Rattle.tg_client_cells.proofs.known.Known.has.Goals as goal

pub returns-then-pos-tail : goal.returns-then-pos-tail
returns-then-pos-tail c = known_below c.args.self.now c.args.found.now c.args.streams.now c.args.tail c.args.pos c.has_any.result c.if-pos-tail.true c.has_any.ensures
