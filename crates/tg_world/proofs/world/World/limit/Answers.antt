use Rattle.std.proofs.Common.{◌<◌, ◌∙◌, sym, subst}
use Rattle.tg_play.proofs.Means.{means}
use Rattle.tg_world.specs.Kept.{KeptOf}
use Rattle.tg_world.proofs.Whole.{has_room}
use Rattle.tg_world.proofs.world.World.limit.Goals as goal

pub returns-clause-room : goal.returns-clause-room
returns-clause-room g c = λ none.
    subst (λ (k : KeptOf (means g.K.Kind g.K.Registry)). k.servers.steps < 200000) c.self.view_is (has_room c.self.inside.servers (sym c.limit.ensures ∙ none))
