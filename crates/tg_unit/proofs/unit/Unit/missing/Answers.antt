use Rattle.std.proofs.Common.{sym}
use Rattle.tg_unit.proofs.Gaps.{none-by-zero}
use Rattle.tg_unit.proofs.unit.Unit.missing.Goals as goal

pub returns-then-step-eq0 : goal.returns-then-step-eq0
returns-then-step-eq0 c = sym (none-by-zero c.args.self.now c.args.step c.args.hi c.args.lo c.if-step-eq0.true)
