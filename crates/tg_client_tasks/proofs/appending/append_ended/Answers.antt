use Rattle.std.proofs.Common.{sym, subst}
use Rattle.std.specs.Prelude.{IfOk}
use Rattle.tg_play.proofs.Means.{means}
use Rattle.tg_protocol.specs.ClientSteps.{append_ended}
use Rattle.tg_append.specs.Appends.{append_end}
use Rattle.tg_append.specs.declared.ends.AppendEnd.{AppendEnd}
use Rattle.tg_client_state.specs.Tasks.{told_purpose}
use Rattle.tg_client_state.specs.States.{client_of, KeepsMoved}
use Rattle.tg_client_tasks.proofs.appending.append_ended.Goals as goal

pub returns-in-At : goal.returns-in-At
returns-in-At g c = λ r w old h.
    subst (λ (e : AppendEnd). IfOk c.stands_at.result (λ y. KeepsMoved (means g.K.Kind g.K.Registry) old y (append_ended (means g.K.Kind g.K.Registry) (client_of (means g.K.Kind g.K.Registry) c.args.state r) w (told_purpose (means g.K.Kind g.K.Registry) c.args.purpose) (append_end e)))) (sym c.in-At.is)
    (c.stands_at.ensures r w old h)

pub returns-in-Full : goal.returns-in-Full
returns-in-Full g c = λ r w old h.
    subst (λ (e : AppendEnd). IfOk c.full.result (λ y. KeepsMoved (means g.K.Kind g.K.Registry) old y (append_ended (means g.K.Kind g.K.Registry) (client_of (means g.K.Kind g.K.Registry) c.args.state r) w (told_purpose (means g.K.Kind g.K.Registry) c.args.purpose) (append_end e)))) (sym c.in-Full.is)
    (c.full.ensures r w old h)

pub returns-in-Forgotten : goal.returns-in-Forgotten
returns-in-Forgotten g c = λ r w old h.
    subst (λ (e : AppendEnd). IfOk c.forgotten.result (λ y. KeepsMoved (means g.K.Kind g.K.Registry) old y (append_ended (means g.K.Kind g.K.Registry) (client_of (means g.K.Kind g.K.Registry) c.args.state r) w (told_purpose (means g.K.Kind g.K.Registry) c.args.purpose) (append_end e)))) (sym c.in-Forgotten.is)
    (c.forgotten.ensures r w old h)
