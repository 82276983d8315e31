use Rattle.std.proofs.Common.{◌∙◌, ap}
use Rattle.tg_play.proofs.Means.{means}
use Rattle.tg_world.specs.Kept.{KeptOf}
use Rattle.tg_world.proofs.Boxed.{PartsOf}
use Rattle.tg_world.proofs.world.World.event.Goals as goal

pub returns : goal.returns
returns g c =
    let m = means g.K.Kind g.K.Registry in
    ap (λ (p : PartsOf m). p.event) c.deref.ensures ∙ ap (λ (k : KeptOf m). k.event) c.self.view_is
