use Rattle.std.proofs.Common.{◌∙◌, ◌<◌, sym, ap, subst}
use Rattle.std.specs.Prelude.{Option}
use Rattle.tg_base.specs.declared.fault.Which.{Which}
use Rattle.tg_play.proofs.Means.{means}
use Rattle.tg_world_servers.specs.Posts.{PostState, first_of}
use Rattle.tg_world.specs.Kept.{KeptOf, KeepsWorld}
use Rattle.tg_world.specs.Runs.{due_by}
use Rattle.tg_world.proofs.Telling.{due_told}
use Rattle.tg_world.proofs.Whole.{has_room}
use Rattle.tg_world.proofs.world.World.due.Goals as goal

pub returns-in-None-clause-room : goal.returns-in-None-clause-room
returns-in-None-clause-room g c = λ _.
    subst (λ (k : KeptOf (means g.K.Kind g.K.Registry)). k.servers.steps < 200000) c.self.view_is (has_room c.self.inside.servers (sym c.limit.ensures ∙ c.in-None.is))

pub returns-in-Some-clause-due : goal.returns-in-Some-clause-due
returns-in-Some-clause-due g c = λ w h.
    let m = means g.K.Kind g.K.Registry in
    ap (λ (l : Option Which). due_by m l (first_of c.self.inside.servers.post.waiting)) (sym c.in-Some.is ∙ c.limit.ensures)
    ∙ due_told m _ w (subst (λ (k : KeptOf m). KeepsWorld m k w) (sym c.self.view_is) h)

pub returns-in-None-clause-due : goal.returns-in-None-clause-due
returns-in-None-clause-due g c = λ w h.
    let m = means g.K.Kind g.K.Registry in
    c.first_waiting.ensures ∙ ap (λ (p : PostState). first_of p.waiting) c.post.ensures
    ∙ ap (λ (l : Option Which). due_by m l (first_of c.self.inside.servers.post.waiting)) (sym c.in-None.is ∙ c.limit.ensures)
    ∙ due_told m _ w (subst (λ (k : KeptOf m). KeepsWorld m k w) (sym c.self.view_is) h)
