use Rattle.std.proofs.Common.{List, ap, ◌∙◌, subst}
use Rattle.std.specs.Prelude.{IfOk}
use Rattle.tg_base.specs.declared.ids.Oid.{Oid}
use Rattle.tg_play.proofs.Means.{means}
use Rattle.tg_protocol.specs.Answers.{syncs}
use Rattle.tg_base.specs.Orders.{with_oid}
use Rattle.tg_client_state.specs.States.{client_of, KeepsMoved}
use Rattle.tg_client_state.specs.Tasks.{JobOf}
use Rattle.tg_client_answers.proofs.rescue.wider.Goals as goal

pub returns : goal.returns
returns g c = λ r w old le hv hj.
    let m = means g.K.Kind g.K.Registry in
    subst (λ (os : List Oid). IfOk c.syncs.result (λ x. KeepsMoved m old x (syncs m (client_of m c.args.state r) w os))) (c.in_ok-oids.ensures ∙ ap (with_oid c.args.added) (c.as_slice.ensures ∙ ap (λ (j : JobOf m). j.oids) (c.deref.ensures ∙ c.job.view_is))) (c.syncs.ensures r w old le hv hj)
