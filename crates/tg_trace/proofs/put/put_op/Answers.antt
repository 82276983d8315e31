use Rattle.tg_any.specs.AnyWords.{op_words}
use Rattle.tg_trace.proofs.Spaces.{put_joined, op_spaced}
use Rattle.tg_trace.proofs.put.put_op.Goals as goal

pub returns : goal.returns
returns c = put_joined _ _ _ (op_words c.args.op.now) (op_spaced c.args.op.now) c.in_ok-push.ensures.ok c.in_ok-spell_op.ensures.ok
