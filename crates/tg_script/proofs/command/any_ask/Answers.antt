use Rattle.tg_any.specs.Words.{texts}
use Rattle.tg_script.proofs.Commands.{ok_ask_is}
use Rattle.tg_script.proofs.command.any_ask.Goals as goal

pub returns : goal.returns
returns c = ok_ask_is c.ask_of.result (texts c.args.words.now) c.ask_of.ensures.found c.ask_of.ensures.only
