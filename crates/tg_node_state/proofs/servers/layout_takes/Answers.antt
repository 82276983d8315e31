use Rattle.std.proofs.Common.{refl, ap, ◌∙◌}
use Rattle.tg_play.proofs.Means.{means}
use Rattle.tg_protocol.specs.LayoutServers.{layout_step}
use Rattle.tg_node_state.specs.declared.own.Own.TheVariants as own
use Rattle.tg_node_state.specs.Nodes.{answer_to, layout_turn}
use Rattle.tg_node_state.proofs.Roles.{server_turn}
use Rattle.tg_node_state.proofs.servers.layout_takes.Goals as goal

pub returns : goal.returns
returns g c = λ steps.
    let m = means g.K.Kind g.K.Registry in
    let p = c.args.packet.now in
    server_turn m steps c.sent.result (own.Layout c.in_ok-layout.layout) c.in_ok-sends.sends (layout_turn m p (layout_step c.args.layout p.msg)) c.sent.ensures.own c.sent.ensures.sends c.sent.ensures.notes c.in_ok-layout.ensures.now
    (c.in_ok-sends.ensures ∙ ap (answer_to p.from p.rid) c.in_ok-layout.ensures.says) refl
