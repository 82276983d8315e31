use Rattle.std.proofs.Common.{◌≡◌, ◌+◌, ◌≤◌, refl, arith}
use Rattle.tg_play.proofs.Means.{means}
use Rattle.tg_protocol.specs.Sequencers.{seqr_tick}
use Rattle.tg_node_state.specs.declared.own.Own.TheVariants as own
use Rattle.tg_node_state.specs.Nodes.{seqr_turn}
use Rattle.tg_node_state.proofs.Roles.{server_turn}
use Rattle.tg_node_state.proofs.servers.seqr_ticks.Goals as goal

pub returns : goal.returns
returns g c = λ steps le.
    let m = means g.K.Kind g.K.Registry in
    let one : c.in_ok-seqr.seqr.calls ≡ c.args.seqr.calls + 1 = c.in_ok-seqr.ensures.calls in
    let more : c.in_ok-seqr.seqr.calls ≤ steps + 1 = omega (arith, one, le) in
    server_turn m (steps + 1) c.sent.result (own.Seqr c.in_ok-seqr.seqr) c.in_ok-seqr.sends (seqr_turn m (seqr_tick c.args.seqr.state)) c.sent.ensures.own c.sent.ensures.sends c.sent.ensures.notes (c.in_ok-seqr.ensures.now, more) c.in_ok-seqr.ensures.sends refl
