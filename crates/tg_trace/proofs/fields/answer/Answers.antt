use Rattle.tg_any.specs.Words.{texts}
use Rattle.tg_trace.specs.Fields.{answer_to}
use Rattle.tg_trace.proofs.Exact.{exact_read}
use Rattle.tg_trace.proofs.FieldWords.{answer_law}
use Rattle.tg_trace.proofs.fields.answer.Goals as goal

pub returns : goal.returns
returns c = exact_read (answer_to c.args.ask.now) (answer_law c.args.ask.now) c.ans_of.result (texts c.args.words.now) c.ans_of.ensures.found c.ans_of.ensures.only
