use Rattle.std.proofs.Common.{◌≡◌, ◌<◌, ◌∙◌, length, refl, sym, ap, subst, arith}
use Rattle.tg_base.specs.declared.ids.NodeId.{NodeId}
use Rattle.tg_play.proofs.Means.{means}
use Rattle.tg_protocol.specs.Words.{client_id}
use Rattle.tg_protocol.specs.Clients.{new_client}
use Rattle.tg_protocol.specs.Worlds.{client}
use Rattle.tg_world_servers.specs.Servers.{ServersState, counted, sends}
use Rattle.tg_world.specs.Kept.{KeptOf, KeepsWorld}
use Rattle.tg_world.proofs.Whole.{are_of, noted_within}
use Rattle.tg_world.proofs.Boxed.{PartsOf, as_told, IsWholeIn, whole_in}
use Rattle.tg_world.proofs.Counted.{room_of}
use Rattle.tg_world.proofs.Moving.{was_there, whole_turned}
use Rattle.tg_world.proofs.Turned.{commanded_keeps, client_there}
use Rattle.tg_world.proofs.world.World.commanded.Goals as goal

pub index-requires-2 : goal.index-requires-2
index-requires-2 g c =
    let m = means g.K.Kind g.K.Registry in
    let q : PartsOf m = c.deref_mut-inner.result.now in
    let view : as_told m c.self.inside.servers q ≡ c.args.self = ap (as_told m c.self.inside.servers) c.deref_mut-inner.ensures.value ∙ c.self.view_is in
    let whole : IsWholeIn m c.self.inside.servers q = whole_in m c.self.inside.servers q _ c.deref_mut-inner.ensures.value c.self.invariant in
    let within : c.args.client < length q.clients.items = subst (λ (x : KeptOf m). c.args.client < length x.clients) (sym view) c.requires.within in
    let within_noted : c.args.client < length q.noted.items =
    noted_within c.self.inside.servers q.clients.items q.told.items q.told_noted.items q.noted.items c.args.client whole within in
    let many : length c.note_client.new.noted.items ≡ length q.noted.items = c.note_client.ensures.many in
    omega (arith, within_noted, many)

pub command-requires-clause-kept : goal.command-requires-clause-kept
command-requires-clause-kept g c =
    let m = means g.K.Kind g.K.Registry in
    are_of m _ c.args.self (ap (as_told m c.self.inside.servers) c.deref_mut-inner.ensures.value ∙ c.self.view_is) c.requires.kept

pub command-requires-clause-room : goal.command-requires-clause-room
command-requires-clause-room g c =
    let m = means g.K.Kind g.K.Registry in
    room_of m _ c.args.self (ap (as_told m c.self.inside.servers) c.deref_mut-inner.ensures.value ∙ c.self.view_is) c.requires.kept c.requires.room

pub invariant_of-result : goal.invariant_of-result
invariant_of-result g c =
    let m = means g.K.Kind g.K.Registry in
    let q : PartsOf m = c.deref_mut-inner.result.now in
    let view : as_told m c.self.inside.servers q ≡ c.args.self = ap (as_told m c.self.inside.servers) c.deref_mut-inner.ensures.value ∙ c.self.view_is in
    let whole : IsWholeIn m c.self.inside.servers q = whole_in m c.self.inside.servers q _ c.deref_mut-inner.ensures.value c.self.invariant in
    let s : ServersState = c.self.inside.servers in
    let moved : c.count_step.new.self ≡ counted (sends s c.client_node.result c.in_ok-outs.outs) = c.count_step.ensures ∙ ap (λ (x : ServersState). counted x) c.in_ok-send.ensures in
    whole_turned c.self.inside.servers c.count_step.new.self q.clients.items c.command.new.clients.items q.told.items c.tell.new.told.items q.told_noted.items c.tell.new.told_noted.items
    q.noted.items c.note_client.new.noted.items whole (ap (λ (x : ServersState). x.cluster) moved) (ap (λ (x : ServersState). x.steps) moved)
    (subst (λ (x : KeptOf m). x.servers.steps < 200000) (sym view) c.requires.room) c.in_ok-outs.ensures.many c.note_client.ensures.many c.in_ok-tell.ensures.many

pub returns-clause-keeps : goal.returns-clause-keeps
returns-clause-keeps g c = λ w h.
    let m = means g.K.Kind g.K.Registry in
    let q : PartsOf m = c.deref_mut-inner.result.now in
    let view : as_told m c.self.inside.servers q ≡ c.args.self = ap (as_told m c.self.inside.servers) c.deref_mut-inner.ensures.value ∙ c.self.view_is in
    let whole : IsWholeIn m c.self.inside.servers q = whole_in m c.self.inside.servers q _ c.deref_mut-inner.ensures.value c.self.invariant in
    let s : ServersState = c.self.inside.servers in
    let k : KeptOf m = as_told m c.self.inside.servers q in
    let hk : KeepsWorld m k w = subst (λ (x : KeptOf m). KeepsWorld m x w) (sym view) h in
    let within : c.args.client < length q.clients.items = subst (λ (x : KeptOf m). c.args.client < length x.clients) (sym view) c.requires.within in
    let before : c.args.client < length q.noted.items =
    noted_within s q.clients.items q.told.items q.told_noted.items q.noted.items c.args.client whole within in
    let many : length c.note_client.new.noted.items ≡ length q.noted.items = c.note_client.ensures.many in
    let within_noted : c.args.client < length c.note_client.new.noted.items = omega (arith, before, many) in
    let sent : c.send.new.self ≡ sends s (client_id c.args.client) c.in_ok-outs.outs =
    c.in_ok-send.ensures ∙ ap (λ (x : NodeId). sends s x c.in_ok-outs.outs) c.client_node.ensures in
    let d = new_client m w.cluster c.args.client in
    commanded_keeps m k w c.args.client c.args.cmd _ hk (record {
      outs = c.in_ok-outs.outs;
      notes = c.in_ok-outs.notes;
      noted = c.index-2.result.now;
      sent = c.in_ok-outs.ensures.sends w.clients d hk.clients;
      replied = c.in_ok-outs.ensures.notes w.clients d hk.clients;
      servers = c.count_step.ensures ∙ ap (λ (x : ServersState). counted x) sent;
      is_noted = was_there c.note_client.new.noted.items c.args.client c.index-2.result.now (record { next = 1; epoch = 1; upto = 0 }) within_noted c.index-2.ensures;
      told = c.in_ok-tell.ensures.told;
      clients = c.in_ok-outs.ensures.keeps w.clients d hk.clients;
      event = refl;
    }) (c.note_client.ensures.now (client m w c.args.client) (client_there m k w c.args.client c.index.result.now hk within c.index.ensures))
