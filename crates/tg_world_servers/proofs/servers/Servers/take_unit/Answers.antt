use Rattle.std.proofs.Common.{◌≡◌, List, length, refl, sym, ap, ◌∙◌}
use Rattle.tg_base.specs.Layouts.{Layout}
use Rattle.tg_base.specs.declared.packet.Packet.{Packet}
use Rattle.tg_protocol.specs.Layouts.{first_layout}
use Rattle.tg_protocol.specs.Logs.{newest}
use Rattle.tg_protocol.specs.Units.{new_unit}
use Rattle.tg_world_servers.specs.Servers.{ServersState, counted, unit_takes}
use Rattle.tg_world_servers.specs.declared.servers.Parts.{Parts}
use Rattle.tg_world_servers.proofs.Boxed.{as_told, whole_in}
use Rattle.tg_world_servers.proofs.Moving.{set_length, whole_more}
use Rattle.tg_world_servers.proofs.Taking.{packet_got, unit_took}
use Rattle.tg_world_servers.proofs.servers.Servers.take_unit.Goals as goal

pub invariant_of-result : goal.invariant_of-result
invariant_of-result c =
    let x : Parts = c.deref_mut-inner.result.now in
    whole_more x.cluster x.first (length x.units.items) (length c.unit_takes.new.units.items) (length x.layouts.items) (length x.layouts.items) x.seqrs.items x.steps
    (ap length (c.in_ok-says.ensures.now new_unit) ∙ set_length x.units.items c.args.num _) refl (whole_in x _ c.deref_mut-inner.ensures.value c.self.invariant)

pub returns-clause-now : goal.returns-clause-now
returns-clause-now c = λ p at to.
    let q : Parts = c.deref_mut-inner.result.now in
    let s : ServersState = as_told q in
    let found : c.index-packets-number.result ≡ p = packet_got c.packets.result.now c.args.self.post.packets c.args.number c.index-packets-number.result p (c.packets.ensures ∙ ap (λ (x : Parts). x.post.packets) c.deref_mut-inner.ensures.value ∙ ap (λ (x : ServersState). x.post.packets) c.self.view_is) at c.index-packets-number.is in
    unit_took s p c.index-packets-number.result c.args.num found to (newest q.first c.packets-2.result.now c.layouts-layouts.result) c.as_slice.result.now c.unit_takes.new.units.items c.archive_after.new.archive.entries c.in_ok-says.says c.answer.new.self
    (ap (newest q.first c.packets-2.result.now) (c.layouts-layouts.ensures ∙ sym (ap (λ (x : Parts). x.cluster.layouts) c.deref_mut-inner.ensures.value ∙ ap (λ (x : ServersState). x.cluster.layouts) c.self.view_is)) ∙ ap (λ (l : Layout). newest l c.packets-2.result.now q.cluster.layouts) (whole_in q _ c.deref_mut-inner.ensures.value c.self.invariant).begins ∙ ap (λ (qs : List Packet). newest (first_layout q.cluster) qs q.cluster.layouts) c.packets-2.ensures) c.as_slice.ensures.value
    c.in_ok-says.ensures.now c.in_ok-archive_after.ensures c.in_ok-says.ensures.says c.in_ok-answer.ensures.ok
    ∙ ap (λ (x : Parts). counted (unit_takes (as_told x) p)) c.deref_mut-inner.ensures.value ∙ ap (λ (x : ServersState). counted (unit_takes x p)) c.self.view_is
