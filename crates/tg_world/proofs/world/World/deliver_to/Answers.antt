use Rattle.tg_play.proofs.Means.{means}
use Rattle.tg_world.proofs.Whole.{client_within}
use Rattle.tg_world.proofs.Happening.{is_running, is_of_client, is_no_client, sent_within, came_to_client, came_to_server}
use Rattle.tg_world.proofs.world.World.deliver_to.Goals as goal

pub deliver_client-requires-clause-within : goal.deliver_client-requires-clause-within
deliver_client-requires-clause-within g c =
    let m = means g.K.Kind g.K.Registry in
    client_within m c.args.self c.rules.ensures.whole c.args.node (is_running c.args.self.servers c.args.node c.runs_client.result c.runs_client.ensures c.if-runs_client.true)
    (is_of_client c.args.self.servers c.args.node c.runs_client.result c.runs_client.ensures c.if-runs_client.true)

pub deliver_client-requires-clause-sent : goal.deliver_client-requires-clause-sent
deliver_client-requires-clause-sent g c = sent_within c.args.self.servers.post.packets c.args.number c.args.node c.requires.sent

pub returns-then-runs_client-clause-keeps : goal.returns-then-runs_client-clause-keeps
returns-then-runs_client-clause-keeps g c = λ w h.
    let m = means g.K.Kind g.K.Registry in
    came_to_client m c.args.self w c.rules.ensures.whole h c.deliver_client.result c.args.number c.args.node c.requires.sent
    (is_running c.args.self.servers c.args.node c.runs_client.result c.runs_client.ensures c.if-runs_client.true) (is_of_client c.args.self.servers c.args.node c.runs_client.result c.runs_client.ensures c.if-runs_client.true)
    (λ p at to. c.deliver_client.ensures.keeps w p h at to)

pub returns-clause-keeps : goal.returns-clause-keeps
returns-clause-keeps g c = λ w h.
    let m = means g.K.Kind g.K.Registry in
    came_to_server m c.args.self w c.rules.ensures.whole h c.deliver_server.result c.args.number c.args.node c.requires.sent
    (is_no_client c.args.self.servers c.args.node c.runs_client.result c.runs_client.ensures c.if-runs_client.false) c.deliver_server.ensures.now
