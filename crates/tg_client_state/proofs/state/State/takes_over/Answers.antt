use Rattle.std.specs.Prelude.{◌≡◌}
use Rattle.std.proofs.Common.{Some, None, ◌∙◌, sym, subst}
use Rattle.tg_play.proofs.Means.{means}
use Rattle.tg_protocol.specs.Answers.{took_over}
use Rattle.tg_client_state.specs.States.{StateOf, client_of, rest_of}
use Rattle.tg_client_state.proofs.Taken.{taken}
use Rattle.tg_client_state.proofs.state.State.takes_over.Goals as goal

pub returns-in-None-clause-is : goal.returns-in-None-clause-is
returns-in-None-clause-is g c = λ r h. taken (means g.K.Kind g.K.Registry) c.args.self r None (sym c.in-None.is ∙ c.in_ok-played_directory.ensures r.view h)

pub returns-in-Some-clause-is : goal.returns-in-Some-clause-is
returns-in-Some-clause-is g c = λ r h.
    let m = means g.K.Kind g.K.Registry in
    let after = took_over m (client_of m c.args.self r) r.view in
    let was : c.deref_mut.result.now ≡ c.args.self = c.deref_mut.ensures.value ∙ c.state.view_is in
    subst (λ (s : StateOf m). after ≡ client_of m (record s { dir = c.in-Some.dir }) (rest_of m after)) (sym was)
    (taken m c.args.self r (Some c.in-Some.dir) (sym c.in-Some.is ∙ c.in_ok-played_directory.ensures r.view h))
