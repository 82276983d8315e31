use Rattle.std.proofs.Common.{◌∙◌}
use Rattle.std.specs.Prelude.{IfOk}
use Rattle.tg_play.proofs.Means.{means}
use Rattle.tg_model.specs.Kinds.{CommandOf}
use Rattle.tg_protocol.specs.Appending.{At}
use Rattle.tg_protocol.specs.ClientSteps.{decided_for, append_ended}
use Rattle.tg_client_state.specs.declared.purpose.Purpose.TheVariants as purpose
use Rattle.tg_client_state.specs.States.{client_of, KeepsMoved}
use Rattle.tg_client_state.proofs.Waiting.{moved_at}
use Rattle.tg_client_tasks.proofs.Deciding.{by_purpose, command_is}
use Rattle.tg_client_state.proofs.Boxed.{job_read}
use Rattle.tg_client_tasks.proofs.appending.stands_at.Goals as goal

pub returns-in-Writes : goal.returns-in-Writes
returns-in-Writes g c = λ r w old h.
    by_purpose (means g.K.Kind g.K.Registry) (λ p. IfOk c.committed.result (λ y. KeepsMoved (means g.K.Kind g.K.Registry) old y (append_ended (means g.K.Kind g.K.Registry) (client_of (means g.K.Kind g.K.Registry) c.args.state r) w p (At c.args.pos c.args.page)))) c.args.purpose purpose.Writes c.in-Writes.is
    (c.committed.ensures r w old h.view)

pub returns-in-Judged : goal.returns-in-Judged
returns-in-Judged g c = λ r w old h.
    by_purpose (means g.K.Kind g.K.Registry) (λ p. IfOk c.judges.result (λ y. KeepsMoved (means g.K.Kind g.K.Registry) old y (append_ended (means g.K.Kind g.K.Registry) (client_of (means g.K.Kind g.K.Registry) c.args.state r) w p (At c.args.pos c.args.page)))) c.args.purpose purpose.Judged c.in-Judged.is
    (c.judges.ensures r w old h)

pub returns-in_ok-state-in-Decides : goal.returns-in_ok-state-in-Decides
returns-in_ok-state-in-Decides g c = λ r w old h.
    by_purpose (means g.K.Kind g.K.Registry) (λ p. IfOk c.decided.result (λ y. KeepsMoved (means g.K.Kind g.K.Registry) old y (append_ended (means g.K.Kind g.K.Registry) (client_of (means g.K.Kind g.K.Registry) c.args.state r) w p (At c.args.pos c.args.page)))) c.args.purpose (purpose.Decides c.in-Decides.answer) c.in-Decides.is
    (moved_at (means g.K.Kind g.K.Registry) (λ (x : CommandOf (means g.K.Kind g.K.Registry)) d. decided_for (means g.K.Kind g.K.Registry) d x c.in-Decides.answer) c.decided.result c.in_ok-state-in-Decides.state _ c.deref.result.now.command w.command r old c.in_ok-state-in-Decides.ensures (command_is (means g.K.Kind g.K.Registry) c.deref.result.now w (job_read (means g.K.Kind g.K.Registry) c.deref.result.now c.args.job w (c.deref.ensures ∙ c.job.view_is) h.job)) c.decided.ensures h.view)

pub returns-in-Rescues : goal.returns-in-Rescues
returns-in-Rescues g c = λ r w old h.
    by_purpose (means g.K.Kind g.K.Registry) (λ p. IfOk c.rescued.result (λ y. KeepsMoved (means g.K.Kind g.K.Registry) old y (append_ended (means g.K.Kind g.K.Registry) (client_of (means g.K.Kind g.K.Registry) c.args.state r) w p (At c.args.pos c.args.page)))) c.args.purpose (purpose.Rescues c.in-Rescues.answer) c.in-Rescues.is
    (c.rescued.ensures r w old h.view)

pub returns-in-Saves : goal.returns-in-Saves
returns-in-Saves g c = λ r w old h.
    by_purpose (means g.K.Kind g.K.Registry) (λ p. IfOk c.saved.result (λ y. KeepsMoved (means g.K.Kind g.K.Registry) old y (append_ended (means g.K.Kind g.K.Registry) (client_of (means g.K.Kind g.K.Registry) c.args.state r) w p (At c.args.pos c.args.page)))) c.args.purpose (purpose.Saves c.in-Saves.oid c.in-Saves.upto) c.in-Saves.is
    (c.saved.ensures r w old h.view)

pub returns-in-Marks : goal.returns-in-Marks
returns-in-Marks g c = λ r w old h.
    by_purpose (means g.K.Kind g.K.Registry) (λ p. IfOk c.marked.result (λ y. KeepsMoved (means g.K.Kind g.K.Registry) old y (append_ended (means g.K.Kind g.K.Registry) (client_of (means g.K.Kind g.K.Registry) c.args.state r) w p (At c.args.pos c.args.page)))) c.args.purpose (purpose.Marks c.in-Marks.number c.in-Marks.oid c.in-Marks.mark) c.in-Marks.is
    (c.marked.ensures r w old h.view)
