use Rattle.tg_play.proofs.Means.{means}
use Rattle.tg_protocol.specs.Answers.{replies}
use Rattle.tg_client_state.proofs.Waiting.{moved_at}
use Rattle.tg_client_tasks.proofs.appending.rescued.Goals as goal

pub returns : goal.returns
returns g c = λ r w old h.
    moved_at (means g.K.Kind g.K.Registry) (λ ns d. replies (means g.K.Kind g.K.Registry) d ns) c.replies.result c.in_ok-state.state _ c.in_ok-notes.notes _ r old c.in_ok-state.ensures c.in_ok-notes.ensures c.replies.ensures h
