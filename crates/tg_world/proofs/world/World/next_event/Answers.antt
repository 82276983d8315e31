use Rattle.std.proofs.Common.{◌≡◌, ◌+◌, ◌∙◌, sym, ap, subst, arith}
use Rattle.tg_play.proofs.Means.{means}
use Rattle.tg_world.specs.Kept.{KeptOf, KeepsWorld}
use Rattle.tg_world.proofs.Boxed.{PartsOf, as_told}
use Rattle.tg_world.proofs.Turned.{next_kept}
use Rattle.tg_world.proofs.world.World.next_event.Goals as goal

pub overflow_add-event : goal.overflow_add-event
overflow_add-event g c =
    let m = means g.K.Kind g.K.Registry in
    let now : c.deref.result.now.event ≡ c.args.self.event = ap (λ (p : PartsOf m). p.event) c.deref.ensures ∙ ap (λ (k : KeptOf m). k.event) c.self.view_is in
    omega (arith, now, c.requires)

pub returns : goal.returns
returns g c = λ w h.
    let m = means g.K.Kind g.K.Registry in
    let q : PartsOf m = c.deref_mut.result.now in
    let k : KeptOf m = as_told m c.self.inside.servers q in
    let view : k ≡ c.args.self = ap (as_told m c.self.inside.servers) c.deref_mut.ensures.value ∙ c.self.view_is in
    let hk : KeepsWorld m k w = subst (λ (x : KeptOf m). KeepsWorld m x w) (sym view) h in
    let is : c.deref.result.now.event + 1 ≡ q.event + 1 = ap (λ (p : PartsOf m). p.event + 1) (c.deref.ensures ∙ sym c.deref_mut.ensures.value) in
    next_kept m k w (c.deref.result.now.event + 1) hk is
