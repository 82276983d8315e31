use Rattle.std.proofs.Common.{ap, ◌∙◌}
use Rattle.tg_play.proofs.Means.{means}
use Rattle.tg_client_tasks.proofs.Accepted.{closed_view, dropped_so}
use Rattle.tg_protocol.specs.Clients.{tx_number}
use Rattle.tg_client_state.specs.States.{StateOf}
use Rattle.tg_client_tasks.proofs.accepting.drops.Goals as goal

pub returns : goal.returns
returns g c = λ v n h.
    let old = c.args.state.rids.next in
    dropped_so (means g.K.Kind g.K.Registry) c.args.state c.closed.result v n old c.tx_number-number.result c.in_ok-notes.notes c.says.result c.closed.ensures (c.tx_number-number.ensures ∙ ap (λ (s : StateOf (means g.K.Kind g.K.Registry)). tx_number (means g.K.Kind g.K.Registry) s.tx) (c.deref.ensures ∙ c.state.view_is)) c.in_ok-notes.ensures
    (c.says.ensures v n old (closed_view (means g.K.Kind g.K.Registry) c.args.state c.closed.result v c.closed.ensures h))
