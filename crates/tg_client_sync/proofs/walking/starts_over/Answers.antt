use Rattle.std.proofs.Common.{◌≡◌, sym, ap, subst, ◌∙◌}
use Rattle.std.specs.Prelude.{IfOk}
use Rattle.tg_play.proofs.Means.{means}
use Rattle.tg_protocol.specs.ClientSteps.{starts_over}
use Rattle.tg_client_state.specs.Tasks.{JobOf}
use Rattle.tg_client_state.specs.States.{client_of, KeepsMoved}
use Rattle.tg_client_state.proofs.Boxed.{holds_job}
use Rattle.tg_client_sync.proofs.Ending.{afresh, over_again}
use Rattle.tg_client_sync.proofs.walking.starts_over.Goals as goal

pub returns-then-not-is_over : goal.returns-then-not-is_over
returns-then-not-is_over g c = λ r w old h.
    subst (λ b. IfOk c.walks.result (λ x. KeepsMoved (means g.K.Kind g.K.Registry) old x (starts_over (means g.K.Kind g.K.Registry) (client_of (means g.K.Kind g.K.Registry) c.args.state r) w c.args.rest b)))
    (sym c.if-not-is_over.true) (c.walks.ensures r w old h)

pub returns : goal.returns
returns g c = λ r w old h.
    let m = means g.K.Kind g.K.Registry in
    let oids : c.in_ok-oids.oids ≡ c.args.job.oids = c.in_ok-oids.ensures ∙ ap (λ (j : JobOf m). j.oids) (c.deref.ensures ∙ c.job.view_is) in
    let was : c.deref_mut.result.now ≡ c.args.job = c.deref_mut.ensures.value ∙ c.job-2.view_is in
    let now : record c.deref_mut-3.result.now { trims = c.new-2.result } ≡ record c.args.job { lo = 0; found = c.new.result; trims = c.new-2.result } =
    ap (λ (j : JobOf m). record j { trims = c.new-2.result }) c.deref_mut-3.ensures.value
    ∙ ap (λ (j : JobOf m). record j { found = c.new.result; trims = c.new-2.result }) c.deref_mut-2.ensures.value
    ∙ ap (λ (j : JobOf m). record j { lo = 0; found = c.new.result; trims = c.new-2.result }) was in
    subst (λ b. IfOk c.walks-2.result (λ x. KeepsMoved m old x (starts_over m (client_of m c.args.state r) w c.args.rest b)))
    (sym c.if-not-is_over.false)
    (over_again m (λ z. IfOk c.walks-2.result (λ x. KeepsMoved m old x z)) c.args.state c.args.job r w old c.args.rest c.in_ok-oids.oids c.new.result c.new-2.result oids c.new.ensures c.new-2.ensures h
    (λ i. c.walks-2.ensures r (afresh m w c.new.result c.new-2.result) old (holds_job m c.args.state _ _ r (afresh m w c.new.result c.new-2.result) old now i)))
