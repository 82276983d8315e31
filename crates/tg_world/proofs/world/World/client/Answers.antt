use Rattle.std.proofs.Common.{◌∙◌, List, ap}
use Rattle.std.specs.Prelude.{slice_get}
use Rattle.tg_play.proofs.Means.{means}
use Rattle.tg_client.specs.Kept.{Kept as KeptClient}
use Rattle.tg_world.specs.Kept.{KeptOf}
use Rattle.tg_world.proofs.Boxed.{PartsOf}
use Rattle.tg_world.proofs.Moving.{copied_there}
use Rattle.tg_world.proofs.world.World.client.Goals as goal

pub returns : goal.returns
returns g c =
    let m = means g.K.Kind g.K.Registry in
    copied_there c.deref-2.result.now c.args.num c.get.result c.get.ensures.lookup.0 c.get.ensures.lookup.1
    ∙ ap (λ (l : List (KeptClient m)). slice_get l c.args.num) c.deref-2.ensures.value ∙ ap (λ (p : PartsOf m). slice_get p.clients.items c.args.num) c.deref.ensures ∙ ap (λ (k : KeptOf m). slice_get k.clients c.args.num) c.self.view_is
