use Rattle.std.proofs.Common.{arith}
use Rattle.std.proofs.lemmas.Grind.{common_steps}
use Rattle.tg_trace.specs.Refusals.{refusal_read}
use Rattle.tg_trace.proofs.refusals.refusal.Goals as goal

pub returns-in-Some : goal.returns-in-Some
unfolding refusal_read
returns-in-Some c = grind (arith, common_steps)

pub returns-in-Some-2 : goal.returns-in-Some-2
unfolding refusal_read
returns-in-Some-2 c = grind (arith, common_steps)

pub returns-in-Some-3 : goal.returns-in-Some-3
unfolding refusal_read
returns-in-Some-3 c = grind (arith, common_steps)

pub returns-in-Some-4 : goal.returns-in-Some-4
unfolding refusal_read
returns-in-Some-4 c = grind (arith, common_steps)

pub returns : goal.returns
unfolding refusal_read
returns c = grind (arith, common_steps)
