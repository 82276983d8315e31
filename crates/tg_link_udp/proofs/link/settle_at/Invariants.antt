use Rattle.std.proofs.Common.{◌≡◌, ◌++◌, map, take, drop}
use Rattle.tg_link_udp.specs.Sockets.{come_to}
use Rattle.tg_link_udp.proofs.link.settle_at.Given as goal

abbrev pub invariant-loop-port : goal.invariant-loop-port
invariant-loop-port l = l.ports ≡ map (come_to l.node) (take l.port-index l.initial.ports) ++ drop l.port-index l.initial.ports
