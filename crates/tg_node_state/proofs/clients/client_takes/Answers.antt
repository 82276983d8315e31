use Rattle.std.proofs.Common.{sym, subst, ◌∙◌, ◌≡◌, ◌+◌, ◌≤◌, arith}
use Rattle.tg_play.proofs.Means.{means}
use Rattle.tg_protocol.specs.ClientSteps.{client_deliver}
use Rattle.tg_node_state.specs.Nodes.{ClientNode}
use Rattle.tg_node_state.specs.Kept.{Kept, KeepsNode}
use Rattle.tg_client.proofs.Counted.{deliver_calls}
use Rattle.tg_node_state.proofs.clients.client_takes.Goals as goal

pub returns : goal.returns
returns g c = λ steps d h le.
    let m = means g.K.Kind g.K.Registry in
    let one : (client_deliver m d c.args.packet.now.from c.args.packet.now.rid c.args.packet.now.msg).now.calls ≡ d.calls + 1 = deliver_calls m d c.args.packet.now.from c.args.packet.now.rid c.args.packet.now.msg in
    let more : (client_deliver m d c.args.packet.now.from c.args.packet.now.rid c.args.packet.now.msg).now.calls ≤ steps + 1 = omega (arith, one, le) in
    record {
      now = subst (λ (o : Kept m). KeepsNode m (steps + 1) o (ClientNode (client_deliver m d c.args.packet.now.from c.args.packet.now.rid c.args.packet.now.msg).now)) (sym c.stepped.ensures.own) (c.in_ok-turned.ensures.now d h, more);
      sends = c.stepped.ensures.sends ∙ c.in_ok-turned.ensures.sends d h;
      notes = c.stepped.ensures.notes ∙ c.in_ok-turned.ensures.notes d h;
    }
