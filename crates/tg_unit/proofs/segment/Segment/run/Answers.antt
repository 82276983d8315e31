use Rattle.std.proofs.Common.{sym, subst, arith}
use Rattle.tg_unit.specs.Bits.{IsRun}
use Rattle.tg_unit.proofs.Bits.{run-of-ones}
use Rattle.tg_unit.proofs.segment.Segment.run.Goals as goal

pub returns : goal.returns
returns c = subst (IsRun c.args.self.now.held c.args.place) (sym c.trailing_ones.ensures) (run-of-ones c.args.self.now.held c.args.place c.requires (omega arith))
