use Rattle.std.proofs.Common.{◌≡◌, length, refl, ap, ◌∙◌}
use Rattle.tg_protocol.specs.LayoutServers.{new_layout}
use Rattle.tg_world_servers.specs.Servers.{ServersState, counted, layout_takes}
use Rattle.tg_world_servers.specs.declared.servers.Parts.{Parts}
use Rattle.tg_world_servers.proofs.Boxed.{as_told, whole_in}
use Rattle.tg_world_servers.proofs.Moving.{set_length, whole_more}
use Rattle.tg_world_servers.proofs.Taking.{packet_got, layout_took}
use Rattle.tg_world_servers.proofs.servers.Servers.take_layout.Goals as goal

pub invariant_of-result : goal.invariant_of-result
invariant_of-result c =
    let x : Parts = c.deref_mut-inner.result.now in
    whole_more x.cluster x.first (length x.units.items) (length x.units.items) (length x.layouts.items) (length c.layout_takes.new.layouts.items) x.seqrs.items x.steps refl
    (ap length (c.in_ok-says.ensures.now (new_layout x.first)) ∙ set_length x.layouts.items c.args.num _) (whole_in x _ c.deref_mut-inner.ensures.value c.self.invariant)

pub returns-clause-now : goal.returns-clause-now
returns-clause-now c = λ p at to.
    let q : Parts = c.deref_mut-inner.result.now in
    let s : ServersState = as_told q in
    let found : c.index-packets-number.result ≡ p = packet_got c.packets.result.now c.args.self.post.packets c.args.number c.index-packets-number.result p (c.packets.ensures ∙ ap (λ (x : Parts). x.post.packets) c.deref_mut-inner.ensures.value ∙ ap (λ (x : ServersState). x.post.packets) c.self.view_is) at c.index-packets-number.is in
    layout_took s p c.index-packets-number.result c.args.num found to c.layout_takes.new.layouts.items c.in_ok-says.says c.answer.new.self c.in_ok-says.ensures.now c.in_ok-says.ensures.says c.in_ok-answer.ensures.ok
    ∙ ap (λ (x : Parts). counted (layout_takes (as_told x) p)) c.deref_mut-inner.ensures.value ∙ ap (λ (x : ServersState). counted (layout_takes x p)) c.self.view_is
