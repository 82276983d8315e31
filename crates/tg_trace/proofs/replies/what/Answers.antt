use Rattle.std.proofs.Common.{arith}
use Rattle.std.proofs.lemmas.Grind.{common_steps}
use Rattle.tg_trace.specs.Replies.{what_read}
use Rattle.tg_trace.proofs.replies.what.Goals as goal

pub returns-in-Some : goal.returns-in-Some
unfolding what_read
returns-in-Some c = grind (arith, common_steps)

pub returns-in-Some-2 : goal.returns-in-Some-2
unfolding what_read
returns-in-Some-2 c = grind (arith, common_steps)

pub returns-in-Some-3 : goal.returns-in-Some-3
unfolding what_read
returns-in-Some-3 c = grind (arith, common_steps)

pub returns-in-Some-4 : goal.returns-in-Some-4
unfolding what_read
returns-in-Some-4 c = grind (arith, common_steps)

pub returns-in-Some-5 : goal.returns-in-Some-5
unfolding what_read
returns-in-Some-5 c = grind (arith, common_steps)

pub returns : goal.returns
unfolding what_read
returns c = grind (arith, common_steps)
