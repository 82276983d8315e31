use Rattle.std.proofs.Common.{sym}
use Rattle.tg_trace.proofs.Growing.{step_none}
use Rattle.tg_trace.proofs.reading.step.Goals as goal

pub returns-in_default : goal.returns-in_default
returns-in_default c = sym (step_none c.args.so_far c.args.line.now c.in_default.ensures.none)
