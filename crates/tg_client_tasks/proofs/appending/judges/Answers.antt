use Rattle.std.proofs.Common.{◌≡◌, ap, ◌∙◌, subst, sym}
use Rattle.tg_play.proofs.Means.{means}
use Rattle.tg_protocol.specs.Clients.{Work}
use Rattle.tg_client_state.specs.Tasks.{JobOf}
use Rattle.tg_client_state.proofs.Boxed.{job_read}
use Rattle.tg_client_tasks.proofs.Deciding.{syncs_at}
use Rattle.std.specs.Prelude.{◌<◌, ◌^◌}
use Rattle.tg_client_state.specs.States.{StateOf}
use Rattle.tg_client_tasks.proofs.appending.judges.Goals as goal

pub returns : goal.returns
returns g c = λ r w old h.
    let m = means g.K.Kind g.K.Registry in
    let j : JobOf m = record c.deref_mut.result.now { at = c.args.pos } in
    let now : j ≡ record c.args.job { at = c.args.pos } = ap (λ (i : JobOf m). record i { at = c.args.pos }) (c.deref_mut.ensures.value ∙ c.job.view_is) in
    syncs_at m c.syncs.result c.in_ok-state.state _ j r (record w { at = c.args.pos }) old c.in_ok-oids.oids _ c.in_ok-state.ensures c.in_ok-oids.ensures c.syncs.ensures h.since h.view
    (job_read m j (record c.args.job { at = c.args.pos }) (record w { at = c.args.pos }) now (ap (λ (u : Work m). record u { at = c.args.pos }) h.job))

pub syncs-requires : goal.syncs-requires
syncs-requires g c = subst (λ (s : StateOf (means g.K.Kind g.K.Registry)). s.rids.next < 2 ^ 62) (sym c.in_ok-state.ensures) c.requires
