use Rattle.std.proofs.Common.{◌≡◌, ◌++◌, map}
use Rattle.tg_protocol.specs.Words.{numbers}
use Rattle.tg_world_servers.specs.Servers.{node_of}
use Rattle.tg_world_servers.proofs.servers.put_nodes.Given as goal

abbrev pub invariant-loop-num : goal.invariant-loop-num
invariant-loop-num l = l.nodes.items ≡ l.initial.nodes.items ++ map (node_of l.role) (numbers l.num 0)
