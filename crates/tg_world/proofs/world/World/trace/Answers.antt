use Rattle.std.proofs.Common.{◌∙◌, ap}
use Rattle.tg_play.proofs.Means.{means}
use Rattle.tg_world.specs.Kept.{KeptOf}
use Rattle.tg_world.proofs.Boxed.{PartsOf}
use Rattle.tg_world.proofs.Telling.{trace_told}
use Rattle.tg_world.proofs.Whole.{whole_of}
use Rattle.tg_world.proofs.world.World.trace.Goals as goal

pub returns : goal.returns
returns g c = λ w h.
    let m = means g.K.Kind g.K.Registry in
    c.as_slice.ensures.value ∙ ap (λ (p : PartsOf m). p.told.items) c.deref.ensures ∙ ap (λ (k : KeptOf m). k.told) c.self.view_is ∙ trace_told m c.args.self.now w h (whole_of m _ c.args.self.now c.self.view_is c.self.invariant)
