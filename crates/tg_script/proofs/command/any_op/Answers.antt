use Rattle.tg_any.specs.Words.{texts}
use Rattle.tg_script.proofs.Commands.{ok_op_is}
use Rattle.tg_script.proofs.command.any_op.Goals as goal

pub returns : goal.returns
returns c = ok_op_is c.op_of.result (texts c.args.words.now) c.op_of.ensures.found c.op_of.ensures.only
