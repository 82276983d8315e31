use Rattle.std.proofs.Common.{◌≡◌, ◌<◌, ◌∙◌, length, refl, sym, ap, subst}
use Rattle.tg_base.specs.declared.packet.Packet.{Packet}
use Rattle.tg_base.specs.declared.ids.NodeId.{NodeId}
use Rattle.tg_play.proofs.Means.{means}
use Rattle.tg_world_servers.specs.Posts.{PostState}
use Rattle.tg_protocol.specs.Words.{client_id}
use Rattle.tg_protocol.specs.Clients.{new_client}
use Rattle.tg_protocol.specs.Worlds as world
use Rattle.tg_world_servers.specs.Servers.{ServersState, counted, hands, sends}
use Rattle.tg_world.specs.Kept.{KeptOf, KeepsWorld}
use Rattle.tg_world.proofs.Boxed.{PartsOf, as_told, IsWholeIn, whole_in}
use Rattle.tg_world.proofs.Counted.{room_of}
use Rattle.tg_world.proofs.Moving.{was_there}
use Rattle.tg_world.proofs.Whole.{are_of, noted_within}
use Rattle.tg_world.proofs.Turned.{delivered_keeps, packet_there}
use Rattle.tg_world.proofs.world.World.deliver_client.Goals as goal

pub deliver-requires-clause-kept : goal.deliver-requires-clause-kept
deliver-requires-clause-kept g c =
    let m = means g.K.Kind g.K.Registry in
    are_of m _ c.args.self (ap (as_told m c.self.inside.servers) c.deref_mut-inner.ensures.value ∙ c.self.view_is) c.requires.kept

pub deliver-requires-clause-room : goal.deliver-requires-clause-room
deliver-requires-clause-room g c =
    let m = means g.K.Kind g.K.Registry in
    room_of m _ c.args.self (ap (as_told m c.self.inside.servers) c.deref_mut-inner.ensures.value ∙ c.self.view_is) c.requires.kept c.requires.room

pub returns-clause-keeps : goal.returns-clause-keeps
returns-clause-keeps g c = λ w p h at to.
    let m = means g.K.Kind g.K.Registry in
    let q : PartsOf m = c.deref_mut-inner.result.now in
    let view : as_told m c.self.inside.servers q ≡ c.args.self = ap (as_told m c.self.inside.servers) c.deref_mut-inner.ensures.value ∙ c.self.view_is in
    let whole : IsWholeIn m c.self.inside.servers q = whole_in m c.self.inside.servers q _ c.deref_mut-inner.ensures.value c.self.invariant in
    let s : ServersState = c.self.inside.servers in
    let k : KeptOf m = as_told m c.self.inside.servers q in
    let l : KeptOf m = record { servers = c.count_step.new.self; clients = c.deliver.new.clients.items; told = c.tell.new.told.items; told_noted = c.tell.new.told_noted.items; noted = q.noted.items; event = q.event } in
    let hk : KeepsWorld m k w = subst (λ (x : KeptOf m). KeepsWorld m x w) (sym view) h in
    let within : c.args.num < length q.clients.items = subst (λ (x : KeptOf m). c.args.num < length x.clients) (sym view) c.requires.within in
    let within_noted : c.args.num < length q.noted.items =
    noted_within s q.clients.items q.told.items q.told_noted.items q.noted.items c.args.num whole within in
    let row : c.packets.result.now ≡ c.args.self.servers.post.packets =
    c.packets.ensures ∙ ap (λ (x : PostState). x.packets) c.post.ensures ∙ ap (λ (x : KeptOf m). x.servers.post.packets) view in
    let same : c.index-packets-number.result ≡ p = packet_there c.packets.result.now c.args.self.servers.post.packets c.args.number c.index-packets-number.result p row at c.index-packets-number.is in
    let sent : c.send.new.self ≡ sends (hands s c.args.number) (client_id c.args.num) c.in_ok-outs.outs =
    c.in_ok-send.ensures ∙ ap (λ (x : ServersState). sends x c.client_node.result c.in_ok-outs.outs) c.in_ok-hand.ensures.ok
    ∙ ap (λ (x : NodeId). sends (hands s c.args.number) x c.in_ok-outs.outs) c.client_node.ensures in
    let d = new_client m w.cluster c.args.num in
    subst (λ (x : Packet). KeepsWorld m l (world.counted m (world.client_moves m (world.handed m w c.args.number) c.args.num x))) same
    (delivered_keeps m k w c.args.number c.args.num c.index-packets-number.result l hk (record {
      outs = c.in_ok-outs.outs;
      notes = c.in_ok-outs.notes;
      noted = c.index.result.now;
      sent = c.in_ok-outs.ensures.sends w.clients d hk.clients;
      replied = c.in_ok-outs.ensures.notes w.clients d hk.clients;
      servers = c.count_step.ensures ∙ ap (λ (x : ServersState). counted x) sent;
      is_noted = was_there q.noted.items c.args.num c.index.result.now (record { next = 1; epoch = 1; upto = 0 }) within_noted c.index.ensures;
      told = c.in_ok-tell.ensures.told;
      clients = c.in_ok-outs.ensures.keeps w.clients d hk.clients;
      event = refl;
    }) refl)
