use Rattle.std.proofs.Common.{◌^◌, ◌/◌, eqb, arith}
use Rattle.std.proofs.lemmas.Bool.{not-true, not-false, eqb-true, eqb-false}
use Rattle.tg_unit.proofs.Bits.{cells-some, cells-none}
use Rattle.tg_unit.proofs.segment.Segment.has_from.Goals as goal

pub returns-clause-some : goal.returns-clause-some
returns-clause-some c = λ t.
    cells-some c.args.self.now c.args.place (omega arith) c.requires.whole
    (eqb-false (c.args.self.now.held / 2 ^ c.args.place) 0 (not-true (eqb (c.args.self.now.held / 2 ^ c.args.place) 0) t))

pub returns-clause-none : goal.returns-clause-none
returns-clause-none c = λ t.
    cells-none c.args.self.now c.args.place c.requires.whole
    (eqb-true (c.args.self.now.held / 2 ^ c.args.place) 0 (not-false (eqb (c.args.self.now.held / 2 ^ c.args.place) 0) t))
