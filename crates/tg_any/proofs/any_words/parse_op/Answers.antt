use Rattle.std.proofs.Common.{arith}
use Rattle.std.proofs.lemmas.Grind.{common_steps}
use Rattle.tg_any.specs.AnyWords.{op_read}
use Rattle.tg_any.proofs.any_words.parse_op.Goals as goal

pub returns-in-Some : goal.returns-in-Some
unfolding op_read
returns-in-Some c = grind (arith, common_steps)

pub returns-in-Some-2 : goal.returns-in-Some-2
unfolding op_read
returns-in-Some-2 c = grind (arith, common_steps)

pub returns-in-Some-3 : goal.returns-in-Some-3
unfolding op_read
returns-in-Some-3 c = grind (arith, common_steps)

pub returns-in-Some-4 : goal.returns-in-Some-4
unfolding op_read
returns-in-Some-4 c = grind (arith, common_steps)

pub returns-in-Some-5 : goal.returns-in-Some-5
unfolding op_read
returns-in-Some-5 c = grind (arith, common_steps)

pub returns-in-Some-6 : goal.returns-in-Some-6
unfolding op_read
returns-in-Some-6 c = grind (arith, common_steps)

pub returns-in-Some-7 : goal.returns-in-Some-7
unfolding op_read
returns-in-Some-7 c = grind (arith, common_steps)

pub returns : goal.returns
unfolding op_read
returns c = grind (arith, common_steps)
