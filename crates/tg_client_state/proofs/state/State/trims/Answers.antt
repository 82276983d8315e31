use Rattle.std.proofs.Common.{◌≡◌, true, sym, subst, ap}
use Rattle.std.specs.Prelude.{◌==◌, IfOk}
use Rattle.tg_play.proofs.Means.{means}
use Rattle.tg_protocol.specs.Answers.{Moved, trims_if}
use Rattle.tg_client_state.specs.States.{client_of, KeepsMoved}
use Rattle.tg_client_state.proofs.state.State.trims.Goals as goal

pub returns-then-below-eq0 : goal.returns-then-below-eq0
returns-then-below-eq0 g c = λ r w old le hv hj.
    let m = means g.K.Kind g.K.Registry in
    let none : (c.args.below == 0) ≡ true = ap (λ n. n == 0) c.if-below-eq0.true in
    subst (λ (x : Moved m). IfOk c.answers.result (λ y. KeepsMoved m old y x)) (sym (ap (trims_if m (client_of m c.args.self r) w c.args.below) none)) (c.answers.ensures r old hv)
