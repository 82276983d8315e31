use Rattle.tg_unit.proofs.Bits.{trim-whole}
use Rattle.tg_unit.proofs.segment.Segment.drop_below.Goals as goal

pub returns-clause-whole : goal.returns-clause-whole
returns-clause-whole c =
    trim-whole c.args.self.now (record { held = c.without_low-self.result; junk = c.without_low-self-2.result; cells = c.drop_cells.new.cells }) c.args.place
    c.requires.whole c.without_low-self.ensures c.without_low-self-2.ensures c.drop_cells.ensures
