use Rattle.std.proofs.Common.{ℕ, refl, ◌∙◌}
use Rattle.std.specs.Prelude.{IfOk}
use Rattle.tg_play.proofs.Means.{means}
use Rattle.tg_model.specs.Kinds.{CommandOf}
use Rattle.tg_model.specs.declared.refusal.Refusal.TheVariants as cause
use Rattle.tg_protocol.specs.Answers.{refuses}
use Rattle.tg_protocol.specs.Appending.{Forgotten}
use Rattle.tg_protocol.specs.ClientSteps.{decided_for, append_ended}
use Rattle.tg_client_state.specs.declared.purpose.Purpose.TheVariants as purpose
use Rattle.tg_client_state.specs.States.{client_of, KeepsMoved}
use Rattle.tg_client_state.proofs.Waiting.{moved_at}
use Rattle.tg_client_tasks.proofs.Deciding.{by_purpose, command_is}
use Rattle.tg_client_state.proofs.Boxed.{job_read}
use Rattle.tg_client_tasks.proofs.appending.forgotten.Goals as goal

pub returns-in-Writes : goal.returns-in-Writes
returns-in-Writes g c = λ r w old h.
    by_purpose (means g.K.Kind g.K.Registry) (λ p. IfOk c.refuses.result (λ y. KeepsMoved (means g.K.Kind g.K.Registry) old y (append_ended (means g.K.Kind g.K.Registry) (client_of (means g.K.Kind g.K.Registry) c.args.state r) w p (Forgotten c.args.at c.args.below)))) c.args.purpose purpose.Writes c.in-Writes.is
    (moved_at (means g.K.Kind g.K.Registry) (λ (n : ℕ) d. refuses (means g.K.Kind g.K.Registry) d n (cause.Forgotten c.args.at c.args.below)) c.refuses.result c.closed.result _ c.tx_number-tx.result _ r old c.closed.ensures c.tx_number-tx.ensures c.refuses.ensures h.view)

pub returns-in-Judged : goal.returns-in-Judged
returns-in-Judged g c = λ r w old h.
    by_purpose (means g.K.Kind g.K.Registry) (λ p. IfOk c.refuses-in-Judged.result (λ y. KeepsMoved (means g.K.Kind g.K.Registry) old y (append_ended (means g.K.Kind g.K.Registry) (client_of (means g.K.Kind g.K.Registry) c.args.state r) w p (Forgotten c.args.at c.args.below)))) c.args.purpose purpose.Judged c.in-Judged.is
    (moved_at (means g.K.Kind g.K.Registry) (λ (n : ℕ) d. refuses (means g.K.Kind g.K.Registry) d n (cause.Forgotten c.args.at c.args.below)) c.refuses-in-Judged.result c.closed-in-Judged.result _ c.tx_number-tx.result _ r old c.closed-in-Judged.ensures c.tx_number-tx.ensures c.refuses-in-Judged.ensures h.view)

pub returns-in-Decides : goal.returns-in-Decides
returns-in-Decides g c = λ r w old h.
    by_purpose (means g.K.Kind g.K.Registry) (λ p. IfOk c.decided.result (λ y. KeepsMoved (means g.K.Kind g.K.Registry) old y (append_ended (means g.K.Kind g.K.Registry) (client_of (means g.K.Kind g.K.Registry) c.args.state r) w p (Forgotten c.args.at c.args.below)))) c.args.purpose (purpose.Decides c.in-Decides.answer) c.in-Decides.is
    (moved_at (means g.K.Kind g.K.Registry) (λ (x : CommandOf (means g.K.Kind g.K.Registry)) d. decided_for (means g.K.Kind g.K.Registry) d x c.in-Decides.answer) c.decided.result c.args.state c.args.state c.deref.result.now.command w.command r old refl (command_is (means g.K.Kind g.K.Registry) c.deref.result.now w (job_read (means g.K.Kind g.K.Registry) c.deref.result.now c.args.job w (c.deref.ensures ∙ c.job.view_is) h.job)) c.decided.ensures h.view)

pub returns-in-Rescues : goal.returns-in-Rescues
returns-in-Rescues g c = λ r w old h.
    by_purpose (means g.K.Kind g.K.Registry) (λ p. IfOk c.refuses-in-Rescues.result (λ y. KeepsMoved (means g.K.Kind g.K.Registry) old y (append_ended (means g.K.Kind g.K.Registry) (client_of (means g.K.Kind g.K.Registry) c.args.state r) w p (Forgotten c.args.at c.args.below)))) c.args.purpose (purpose.Rescues c.in-Rescues.answer) c.in-Rescues.is
    (c.refuses-in-Rescues.ensures r old h.view)

pub returns-in-Saves : goal.returns-in-Saves
returns-in-Saves g c = λ r w old h.
    by_purpose (means g.K.Kind g.K.Registry) (λ p. IfOk c.refuses-in-Saves.result (λ y. KeepsMoved (means g.K.Kind g.K.Registry) old y (append_ended (means g.K.Kind g.K.Registry) (client_of (means g.K.Kind g.K.Registry) c.args.state r) w p (Forgotten c.args.at c.args.below)))) c.args.purpose (purpose.Saves c.in-Saves.oid c.in-Saves.upto) c.in-Saves.is
    (c.refuses-in-Saves.ensures r old h.view)

pub returns : goal.returns
returns g c = λ r w old h.
    by_purpose (means g.K.Kind g.K.Registry) (λ p. IfOk c.refuses-in-Marks.result (λ y. KeepsMoved (means g.K.Kind g.K.Registry) old y (append_ended (means g.K.Kind g.K.Registry) (client_of (means g.K.Kind g.K.Registry) c.args.state r) w p (Forgotten c.args.at c.args.below)))) c.args.purpose (purpose.Marks c.in-Marks.number c.in-Marks.oid c.in-Marks.mark) c.in-Marks.is
    (c.refuses-in-Marks.ensures r old h.view)
