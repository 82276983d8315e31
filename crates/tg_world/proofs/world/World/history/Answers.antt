use Rattle.std.proofs.Common.{◌≡◌, ◌∙◌, List, ap, subst}
use Rattle.std.specs.Prelude.{IfOk}
use Rattle.tg_play.proofs.Means.{means}
use Rattle.tg_model.specs.Kinds.{DoneOf}
use Rattle.tg_protocol.specs.Logs.{Log, history_of}
use Rattle.tg_world.proofs.Telling.{history_told}
use Rattle.tg_world.proofs.world.World.history.Goals as goal

pub returns : goal.returns
returns g c = λ w h.
    let m = means g.K.Kind g.K.Registry in
    subst (λ (x : List (DoneOf m)). IfOk c.history_of.result (λ ds. ds ≡ x)) (ap (λ (l : Log). history_of m l) c.as_slice.ensures ∙ history_told m c.args.self.now w h c.in_ok-log.log (c.in_ok-log.ensures w h)) c.history_of.ensures
