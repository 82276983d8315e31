use Rattle.tg_play.proofs.Means.{means}
use Rattle.tg_world.proofs.Whole.{client_within}
use Rattle.tg_world.proofs.Happening.{is_running, is_of_client, is_no_client, client_ticked, server_ticked}
use Rattle.tg_world.proofs.world.World.tick.Goals as goal

pub tick_client-requires-clause-within : goal.tick_client-requires-clause-within
tick_client-requires-clause-within g c =
    let m = means g.K.Kind g.K.Registry in
    client_within m c.args.self c.rules.ensures.whole c.args.node (is_running c.args.self.servers c.args.node c.runs_client.result c.runs_client.ensures c.if-runs_client.true)
    (is_of_client c.args.self.servers c.args.node c.runs_client.result c.runs_client.ensures c.if-runs_client.true)

pub returns-then-runs_client-clause-keeps : goal.returns-then-runs_client-clause-keeps
returns-then-runs_client-clause-keeps g c = λ w h.
    let m = means g.K.Kind g.K.Registry in
    client_ticked m c.args.self w c.rules.ensures.whole h c.tick_client.result c.args.node
    (is_running c.args.self.servers c.args.node c.runs_client.result c.runs_client.ensures c.if-runs_client.true) (is_of_client c.args.self.servers c.args.node c.runs_client.result c.runs_client.ensures c.if-runs_client.true)
    (c.tick_client.ensures.keeps w h)

pub returns-clause-keeps : goal.returns-clause-keeps
returns-clause-keeps g c = λ w h.
    let m = means g.K.Kind g.K.Registry in
    server_ticked m c.args.self w c.rules.ensures.whole h c.tick_server.result c.args.node
    (is_no_client c.args.self.servers c.args.node c.runs_client.result c.runs_client.ensures c.if-runs_client.false) c.tick_server.ensures.now
