use Rattle.std.proofs.Common.{◌≡◌, ◌++◌, map, take, drop}
use Rattle.tg_link_udp.specs.Sockets.{sent_to}
use Rattle.tg_link_udp.proofs.link.expect_at.Given as goal

abbrev pub invariant-loop-port : goal.invariant-loop-port
invariant-loop-port l = l.ports ≡ map (sent_to l.node) (take l.port-index l.initial.ports) ++ drop l.port-index l.initial.ports
