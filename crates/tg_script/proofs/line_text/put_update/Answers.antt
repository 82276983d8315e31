use Rattle.std.proofs.Common.{refl}
use Rattle.tg_script.proofs.Spaces.{on_ok, written_behind}
use Rattle.tg_script.proofs.line_text.put_update.Goals as goal

pub returns : goal.returns
returns c = on_ok c.put_op.result _ _ c.put_op.ensures (λ g. written_behind _ _ _ _ _ _ _ c.in_ok-put_member.ensures c.in_ok-push.ensures.ok g refl)
