use Rattle.tg_any.specs.Words.{texts}
use Rattle.tg_trace.specs.Fields.{any_ask}
use Rattle.tg_trace.proofs.Exact.{exact_read}
use Rattle.tg_trace.proofs.FieldWords.{any_ask_law}
use Rattle.tg_trace.proofs.fields.ask.Goals as goal

pub returns : goal.returns
returns c = exact_read any_ask any_ask_law c.ask_of.result (texts c.args.words.now) c.ask_of.ensures.found c.ask_of.ensures.only
