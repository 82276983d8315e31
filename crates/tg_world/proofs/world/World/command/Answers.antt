use Rattle.std.proofs.Common.{true, false, refl}
use Rattle.tg_play.proofs.Means.{means}
use Rattle.tg_protocol.specs.Words.{client_id}
use Rattle.tg_world.proofs.Whole.{whole_of, runs_at, client_within}
use Rattle.tg_world.proofs.Events.{command_by, idle_keeps}
use Rattle.tg_world.proofs.Happening.{commanded}
use Rattle.tg_world.proofs.world.World.command.Goals as goal

pub commanded-requires-clause-within : goal.commanded-requires-clause-within
commanded-requires-clause-within g c =
    let m = means g.K.Kind g.K.Registry in
    client_within m c.args.self (whole_of m _ c.args.self c.self.view_is c.self.invariant) (client_id c.args.client)
    (runs_at m _ c.args.self c.self.view_is c.client_node.result (client_id c.args.client) c.runs.result true c.runs.ensures c.client_node.ensures c.if-runs.true) refl

pub returns-then-runs-clause-keeps : goal.returns-then-runs-clause-keeps
returns-then-runs-clause-keeps g c = λ w h.
    let m = means g.K.Kind g.K.Registry in
    commanded m c.args.self w (whole_of m _ c.args.self c.self.view_is c.self.invariant) h c.commanded.result c.args.client c.args.command
    (runs_at m _ c.args.self c.self.view_is c.client_node.result (client_id c.args.client) c.runs.result true c.runs.ensures c.client_node.ensures c.if-runs.true) (c.commanded.ensures.keeps w h)

pub returns-clause-keeps : goal.returns-clause-keeps
returns-clause-keeps g c = λ w h.
    let m = means g.K.Kind g.K.Registry in
    let whole = whole_of m _ c.args.self c.self.view_is c.self.invariant in
    command_by m c.args.self c.idle.result w whole h c.args.client c.args.command false
    (runs_at m _ c.args.self c.self.view_is c.client_node.result (client_id c.args.client) c.runs.result false c.runs.ensures c.client_node.ensures c.if-runs.false) (idle_keeps m c.args.self c.idle.result w whole h c.idle.ensures)
