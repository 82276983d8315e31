use Rattle.std.proofs.Common.{sym, subst, ◌∙◌, ◌≡◌, ◌+◌, ◌≤◌, arith}
use Rattle.tg_play.proofs.Means.{means}
use Rattle.tg_protocol.specs.ClientSteps.{client_command}
use Rattle.tg_node_state.specs.Nodes.{ClientNode}
use Rattle.tg_node_state.specs.Kept.{Kept, KeepsNode}
use Rattle.tg_client.proofs.Counted.{command_calls}
use Rattle.tg_node_state.proofs.clients.client_commands.Goals as goal

pub returns : goal.returns
returns g c = λ steps d h le.
    let m = means g.K.Kind g.K.Registry in
    let one : (client_command m d c.args.command).now.calls ≡ d.calls + 1 = command_calls m d c.args.command in
    let more : (client_command m d c.args.command).now.calls ≤ steps + 1 = omega (arith, one, le) in
    record {
      now = subst (λ (o : Kept m). KeepsNode m (steps + 1) o (ClientNode (client_command m d c.args.command).now)) (sym c.stepped.ensures.own) (c.in_ok-turned.ensures.now d h, more);
      sends = c.stepped.ensures.sends ∙ c.in_ok-turned.ensures.sends d h;
      notes = c.stepped.ensures.notes ∙ c.in_ok-turned.ensures.notes d h;
    }
