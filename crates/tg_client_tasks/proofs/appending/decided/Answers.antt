use Rattle.std.proofs.Common.{ℕ, sym, subst}
use Rattle.std.specs.Prelude.{IfOk}
use Rattle.tg_play.proofs.Means.{means}
use Rattle.tg_model.specs.Kinds.{CommandOf}
use Rattle.tg_protocol.specs.Answers.{Moved, answers}
use Rattle.tg_protocol.specs.ClientSteps.{decided_for}
use Rattle.tg_client_state.specs.States.{client_of, KeepsMoved}
use Rattle.tg_client_state.proofs.Waiting.{moved_at}
use Rattle.tg_client_tasks.proofs.Deciding.{other_decided}
use Rattle.tg_client_tasks.proofs.appending.decided.Goals as goal

pub returns-in-End : goal.returns-in-End
returns-in-End g c = λ r old h.
    subst (λ (x : CommandOf (means g.K.Kind g.K.Registry)). IfOk c.answers.result (λ y. KeepsMoved (means g.K.Kind g.K.Registry) old y (decided_for (means g.K.Kind g.K.Registry) (client_of (means g.K.Kind g.K.Registry) c.args.state r) x c.args.answer))) (sym c.in-End.is)
    (moved_at (means g.K.Kind g.K.Registry) (λ (n : ℕ) d. answers (means g.K.Kind g.K.Registry) d n c.args.answer) c.answers.result c.closed.result _ c.tx_number-tx.result _ r old c.closed.ensures c.tx_number-tx.ensures c.answers.ensures h)

pub returns-in_default : goal.returns-in_default
returns-in_default g c = λ r old h.
    subst (λ (z : Moved (means g.K.Kind g.K.Registry)). IfOk c.answers-in_default.result (λ y. KeepsMoved (means g.K.Kind g.K.Registry) old y z))
    (other_decided (means g.K.Kind g.K.Registry) (client_of (means g.K.Kind g.K.Registry) c.args.state r) c.args.command.now c.args.answer c.in_default.not-End) (c.answers-in_default.ensures r old h)
