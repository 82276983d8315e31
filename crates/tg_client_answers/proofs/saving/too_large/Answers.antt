use Rattle.std.proofs.Common.{ℕ, subst}
use Rattle.std.specs.Prelude.{IfOk}
use Rattle.tg_play.proofs.Means.{means}
use Rattle.tg_model.specs.declared.refusal.Refusal.TheVariants as cause
use Rattle.tg_protocol.specs.Answers.{refuses}
use Rattle.tg_client_state.specs.States.{client_of, KeepsMoved}
use Rattle.tg_client_answers.proofs.Moving.{size_is}
use Rattle.tg_client_answers.proofs.saving.too_large.Goals as goal

pub returns : goal.returns
returns g c = λ size r old h hv.
    let m = means g.K.Kind g.K.Registry in
    subst (λ (n : ℕ). IfOk c.refuses.result (λ x. KeepsMoved m old x (refuses m (client_of m c.args.state r) 0 (cause.TooLarge n)))) (size_is c.args.bytes size h c.if-bytes-eq18446744073709551615.false)
    (c.refuses.ensures r old hv)
