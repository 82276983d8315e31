use Rattle.std.proofs.Common.{List, sym, ap, subst, ◌∙◌}
use Rattle.std.specs.Prelude.{IfOk}
use Rattle.tg_base.specs.declared.ids.Oid.{Oid}
use Rattle.tg_play.proofs.Means.{means}
use Rattle.tg_protocol.specs.Answers.{syncs}
use Rattle.tg_protocol.specs.Clients.{Work}
use Rattle.tg_client_state.specs.Tasks.{JobOf}
use Rattle.tg_client_state.specs.States.{client_of, KeepsMoved}
use Rattle.tg_client_sync.proofs.walking.syncs_again.Goals as goal

pub returns : goal.returns
returns g c = λ r w old h.
    subst (λ (qs : List Oid). IfOk c.syncs.result (λ y. KeepsMoved (means g.K.Kind g.K.Registry) old y (syncs (means g.K.Kind g.K.Registry) (client_of (means g.K.Kind g.K.Registry) c.args.state r) w qs)))
    (c.in_ok-oids.ensures ∙ ap (λ (j : JobOf (means g.K.Kind g.K.Registry)). j.oids) (c.deref.ensures ∙ c.job.view_is) ∙ sym (ap (λ (v : Work (means g.K.Kind g.K.Registry)). v.oids) h.job)) (c.syncs.ensures r w old h.since h.view h.job)
