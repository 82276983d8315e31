use Rattle.tg_any.specs.AnyWords.{op_words}
use Rattle.tg_any.specs.Names.{object_word}
use Rattle.tg_script.proofs.Graphics.{op_some}
use Rattle.tg_script.proofs.Spaces.{on_ok, front_two, written_behind}
use Rattle.tg_script.proofs.line_text.put_op.Goals as goal

pub returns : goal.returns
returns c =
    on_ok c.spell_op.result _ _ c.spell_op.ensures.ok (λ g. written_behind _ _ _ _ _ _ _ c.in_ok-put_one.ensures c.in_ok-push.ensures.ok g
    (front_two c.args.verb.now (object_word c.args.oid) (op_words c.args.op.now) (op_some c.args.op.now)))
