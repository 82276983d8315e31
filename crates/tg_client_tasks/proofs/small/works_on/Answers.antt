use Rattle.std.proofs.Common.{ℕ, ◌≤◌, None, arith, ap, ◌∙◌}
use Rattle.tg_play.proofs.Means.{means}
use Rattle.tg_protocol.specs.ClientSteps.{new_work}
use Rattle.tg_client_tasks.proofs.Said.{worked}
use Rattle.tg_client_state.specs.States.{StateOf}
use Rattle.tg_client_tasks.proofs.small.works_on.Goals as goal

pub returns : goal.returns
returns g c = λ v n h.
    let old : ℕ = c.args.state.rids.next in
    let le : old ≤ old = omega arith in
    worked (means g.K.Kind g.K.Registry) c.args.state v n c.args.command c.in_ok-hosted.hosted c.syncs.result (c.in_ok-hosted.ensures ∙ ap (λ (s : StateOf (means g.K.Kind g.K.Registry)). s.hosted) (c.deref.ensures ∙ c.state.view_is))
    (c.syncs.ensures (record { view = v; played = n; work = None }) (new_work (means g.K.Kind g.K.Registry) c.args.command) old le h c.in_ok-job.ensures)
