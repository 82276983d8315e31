use Rattle.std.proofs.Common.{◌≡◌, true, Some}
use Rattle.tg_any.specs.Words.{texts}
use Rattle.tg_any.specs.AnyWords.{op_words, op_fits, op_read}
use Rattle.tg_any.specs.declared.any.AnyOp.{AnyOp}
use Rattle.tg_any.proofs.AnyForms.{ok_found, ok_only, op_takes, op_again}
use Rattle.tg_any.proofs.any_words.op_of.Goals as goal

pub returns-clause-found : goal.returns-clause-found
returns-clause-found c =
    ok_found c.parse_op.result (op_read (texts c.args.words.now)) (λ (op : AnyOp). (texts c.args.words.now ≡ op_words op) × (op_fits op ≡ true)) c.parse_op.ensures (op_takes (texts c.args.words.now))

pub returns-clause-only : goal.returns-clause-only
returns-clause-only c op fits is = ok_only c.parse_op.result (op_read (texts c.args.words.now)) (Some op) c.parse_op.ensures (op_again (texts c.args.words.now) op fits is)
