use Rattle.std.proofs.Common.{◌≡◌, ◌<◌, ◌∙◌, length, refl, sym, ap, subst}
use Rattle.tg_base.specs.declared.ids.NodeId.{NodeId}
use Rattle.tg_play.proofs.Means.{means}
use Rattle.tg_protocol.specs.Words.{client_id}
use Rattle.tg_protocol.specs.Clients.{new_client}
use Rattle.tg_protocol.specs.ClientSteps.{client_tick}
use Rattle.tg_protocol.specs.Worlds.{client}
use Rattle.tg_client.proofs.Counted.{tick_calls}
use Rattle.tg_world_servers.specs.Servers.{ServersState, counted, sends}
use Rattle.tg_world.specs.Kept.{KeptOf, KeepsWorld}
use Rattle.tg_world.proofs.Boxed.{PartsOf, as_told, IsWholeIn, whole_in}
use Rattle.tg_world.proofs.Counted.{room_of}
use Rattle.tg_world.proofs.Moving.{was_there}
use Rattle.tg_world.proofs.Whole.{are_of, noted_within}
use Rattle.tg_world.proofs.Turned.{turned_alike}
use Rattle.tg_world.proofs.world.World.tick_client.Goals as goal

pub tick-requires-clause-kept : goal.tick-requires-clause-kept
tick-requires-clause-kept g c =
    let m = means g.K.Kind g.K.Registry in
    are_of m _ c.args.self (ap (as_told m c.self.inside.servers) c.deref_mut-inner.ensures.value ∙ c.self.view_is) c.requires.kept

pub tick-requires-clause-room : goal.tick-requires-clause-room
tick-requires-clause-room g c =
    let m = means g.K.Kind g.K.Registry in
    room_of m _ c.args.self (ap (as_told m c.self.inside.servers) c.deref_mut-inner.ensures.value ∙ c.self.view_is) c.requires.kept c.requires.room

pub returns-clause-keeps : goal.returns-clause-keeps
returns-clause-keeps g c = λ w h.
    let m = means g.K.Kind g.K.Registry in
    let q : PartsOf m = c.deref_mut-inner.result.now in
    let view : as_told m c.self.inside.servers q ≡ c.args.self = ap (as_told m c.self.inside.servers) c.deref_mut-inner.ensures.value ∙ c.self.view_is in
    let whole : IsWholeIn m c.self.inside.servers q = whole_in m c.self.inside.servers q _ c.deref_mut-inner.ensures.value c.self.invariant in
    let s : ServersState = c.self.inside.servers in
    let k : KeptOf m = as_told m c.self.inside.servers q in
    let hk : KeepsWorld m k w = subst (λ (x : KeptOf m). KeepsWorld m x w) (sym view) h in
    let within : c.args.num < length q.clients.items = subst (λ (x : KeptOf m). c.args.num < length x.clients) (sym view) c.requires.within in
    let within_noted : c.args.num < length q.noted.items =
    noted_within s q.clients.items q.told.items q.told_noted.items q.noted.items c.args.num whole within in
    let sent : c.send.new.self ≡ sends s (client_id c.args.num) c.in_ok-outs.outs =
    c.in_ok-send.ensures ∙ ap (λ (x : NodeId). sends s x c.in_ok-outs.outs) c.client_node.ensures in
    let d = new_client m w.cluster c.args.num in
    turned_alike m k w c.args.num (client_tick m (client m w c.args.num)) _ hk (record {
      outs = c.in_ok-outs.outs;
      notes = c.in_ok-outs.notes;
      noted = c.index.result.now;
      sent = c.in_ok-outs.ensures.sends w.clients d hk.clients;
      replied = c.in_ok-outs.ensures.notes w.clients d hk.clients;
      servers = c.count_step.ensures ∙ ap (λ (x : ServersState). counted x) sent;
      is_noted = was_there q.noted.items c.args.num c.index.result.now (record { next = 1; epoch = 1; upto = 0 }) within_noted c.index.ensures;
      told = c.in_ok-tell.ensures.told;
      clients = c.in_ok-outs.ensures.keeps w.clients d hk.clients;
      event = refl;
    }) (tick_calls m (client m w c.args.num)) refl
