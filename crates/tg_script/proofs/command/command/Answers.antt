use Rattle.std.proofs.Common.{arith}
use Rattle.std.proofs.lemmas.Grind.{common_steps}
use Rattle.tg_script.specs.Commands.{command_read}
use Rattle.tg_script.proofs.command.command.Goals as goal

pub returns-in-Some : goal.returns-in-Some
unfolding command_read
returns-in-Some c = grind (arith, common_steps)

pub returns-in-Some-2 : goal.returns-in-Some-2
unfolding command_read
returns-in-Some-2 c = grind (arith, common_steps)

pub returns-in-Some-3 : goal.returns-in-Some-3
unfolding command_read
returns-in-Some-3 c = grind (arith, common_steps)

pub returns : goal.returns
unfolding command_read
returns c = grind (arith, common_steps)
