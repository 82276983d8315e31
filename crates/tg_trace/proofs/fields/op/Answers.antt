use Rattle.tg_any.specs.Words.{texts}
use Rattle.tg_trace.specs.Fields.{any_op}
use Rattle.tg_trace.proofs.Exact.{exact_read}
use Rattle.tg_trace.proofs.FieldWords.{any_op_law}
use Rattle.tg_trace.proofs.fields.op.Goals as goal

pub returns : goal.returns
returns c = exact_read any_op any_op_law c.op_of.result (texts c.args.words.now) c.op_of.ensures.found c.op_of.ensures.only
