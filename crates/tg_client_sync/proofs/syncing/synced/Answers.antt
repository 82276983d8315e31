use Rattle.std.proofs.Common.{◌≡◌, ap, ◌∙◌, subst, sym}
use Rattle.std.specs.Prelude.{IfOk}
use Rattle.tg_play.proofs.Means.{means}
use Rattle.tg_protocol.specs.ClientSteps.{lo_for}
use Rattle.tg_client_state.specs.Tasks.{JobOf}
use Rattle.tg_client_state.specs.States.{client_of, KeepsMoved, StateOf}
use Rattle.tg_client_state.proofs.Boxed.{holds_job}
use Rattle.tg_client_sync.proofs.Ending.{confirmed, sync_over}
use Rattle.tg_client_state.specs.Counts.{HasNumbersLeft}
use Rattle.tg_client_sync.proofs.syncing.synced.Goals as goal

pub returns : goal.returns
returns g c = λ r w old h.
    let m = means g.K.Kind g.K.Registry in
    let e = c.args.end in
    let lo = c.lo_for-lo.result in
    let oids : c.in_ok-oids.oids ≡ c.args.job.oids = c.in_ok-oids.ensures ∙ ap (λ (j : JobOf m). j.oids) (c.deref.ensures ∙ c.job.view_is) in
    let low : lo ≡ lo_for m (client_of m c.args.state r) c.args.job.command = c.lo_for-lo.ensures r h.view ∙ ap (λ (j : JobOf m). lo_for m (client_of m c.args.state r) j.command) (c.deref-2.ensures ∙ c.job.view_is) in
    let was : c.deref_mut.result.now ≡ c.args.job = c.deref_mut.ensures.value ∙ c.job-2.view_is in
    let now : record c.deref_mut-3.result.now { lo = lo } ≡ record c.args.job { tail = e.tail; lasts = e.lasts; lo = lo } =
    ap (λ (j : JobOf m). record j { lo = lo }) c.deref_mut-3.ensures.value
    ∙ ap (λ (j : JobOf m). record j { lasts = e.lasts; lo = lo }) c.deref_mut-2.ensures.value
    ∙ ap (λ (j : JobOf m). record j { tail = e.tail; lasts = e.lasts; lo = lo }) was in
    sync_over m (λ z. IfOk c.walks.result (λ x. KeepsMoved m old x z)) c.args.state c.in_ok-state.state c.args.job c.in_ok-oids.oids lo e r w old h
    oids low c.in_ok-state.ensures
    (λ i. c.walks.ensures r (confirmed m w e lo) old (holds_job m c.in_ok-state.state _ _ r (confirmed m w e lo) old now i))

pub walks-requires : goal.walks-requires
walks-requires g c = subst (λ (s : StateOf (means g.K.Kind g.K.Registry)). HasNumbersLeft (means g.K.Kind g.K.Registry) s) (sym c.in_ok-state.ensures) c.requires
