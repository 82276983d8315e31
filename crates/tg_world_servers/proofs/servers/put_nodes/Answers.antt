use Rattle.std.proofs.Common.{refl}
use Rattle.tg_world_servers.specs.Servers.{node_of}
use Rattle.tg_world_servers.proofs.Starting.{nodes_last}
use Rattle.tg_world_servers.proofs.servers.put_nodes.Goals as goal

pub loop-num-preserved : goal.loop-num-preserved
loop-num-preserved c =
    nodes_last c.args.role c.args.nodes.now.items c.loop-num.nodes.items c.push.new.self.items c.loop-num.num (node_of c.args.role c.loop-num.num) c.in_ok-push.ensures.items refl c.loop-num.invariant
