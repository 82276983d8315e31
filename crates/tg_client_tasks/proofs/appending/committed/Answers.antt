use Rattle.std.proofs.Common.{◌∙◌, ap, [], ◌∷◌, ℕ}
use Rattle.std.specs.Prelude.{None}
use Rattle.tg_play.proofs.Means.{means}
use Rattle.tg_model.specs.declared.trace.What.TheVariants.{Committed}
use Rattle.tg_protocol.specs.Answers.{note, replies}
use Rattle.tg_client_state.specs.States.{StateOf}
use Rattle.tg_client_state.proofs.Waiting.{moved_at}
use Rattle.tg_client_tasks.proofs.appending.committed.Goals as goal

pub returns : goal.returns
returns g c = λ r w old h.
    moved_at (means g.K.Kind g.K.Registry) (λ ns d. replies (means g.K.Kind g.K.Registry) d ns) c.replies.result c.closed.result _ c.in_ok-notes.notes _ r old
    (c.closed.ensures ∙ ap (λ (s : StateOf (means g.K.Kind g.K.Registry)). record s { tx = None }) c.in_ok-state.ensures)
    (c.in_ok-notes.ensures ∙ ap (λ (n : ℕ). note (means g.K.Kind g.K.Registry) n (Committed c.args.pos) ∷ []) c.tx_number.ensures) c.replies.ensures h
