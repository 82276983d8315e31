use Rattle.std.proofs.Common.{refl}
use Rattle.tg_replay.specs.Runs.{line_on}
use Rattle.tg_replay.proofs.stages.Run.play.Goals as goal

pub returns-clause-made : goal.returns-clause-made
returns-clause-made c = λ w k. c.after.ensures.made c.args.self (line_on w c.args.line) refl c.in_ok-ran.ensures.event (c.in_ok-ran.ensures.world w k) (c.in_ok-ran.ensures.stopped w k)

pub returns-clause-counts : goal.returns-clause-counts
returns-clause-counts c = c.after.ensures.counts c.args.self.world.event c.in_ok-ran.ensures.event
