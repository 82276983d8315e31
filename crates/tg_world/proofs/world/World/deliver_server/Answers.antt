use Rattle.tg_play.proofs.Means.{means}
use Rattle.tg_world.proofs.Happening.{server_took}
use Rattle.tg_world.proofs.world.World.deliver_server.Goals as goal

pub returns-clause-now : goal.returns-clause-now
returns-clause-now g c = λ p at.
    server_took (means g.K.Kind g.K.Registry) _ c.args.self c.args.number p c.hand.new.self c.in_ok-servers.servers c.self.view_is c.in_ok-hand.ensures.ok c.in_ok-servers.ensures.now at
