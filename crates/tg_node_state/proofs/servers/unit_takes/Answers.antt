use Rattle.std.proofs.Common.{refl, ap, ◌∙◌}
use Rattle.tg_play.proofs.Means.{means}
use Rattle.tg_protocol.specs.Units.{unit_step}
use Rattle.tg_node_state.specs.declared.own.Own.TheVariants as own
use Rattle.tg_node_state.specs.Nodes.{answer_to, unit_turn}
use Rattle.tg_node_state.proofs.Roles.{server_turn}
use Rattle.tg_node_state.proofs.servers.unit_takes.Goals as goal

pub returns : goal.returns
returns g c = λ steps.
    let m = means g.K.Kind g.K.Registry in
    let p = c.args.packet.now in
    server_turn m steps c.sent.result (own.Unit c.in_ok-unit.unit) c.in_ok-sends.sends (unit_turn m p (unit_step c.args.unit p.msg)) c.sent.ensures.own c.sent.ensures.sends c.sent.ensures.notes c.in_ok-unit.ensures.now
    (c.in_ok-sends.ensures ∙ ap (answer_to p.from p.rid) c.in_ok-unit.ensures.says) refl
