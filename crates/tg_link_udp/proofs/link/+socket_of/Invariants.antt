use Rattle.std.proofs.Common.{length}
use Rattle.tg_link_udp.proofs.link.+socket_of.Given as goal

abbrev pub decreases-socket_of : goal.decreases-socket_of
decreases-socket_of l = length l.ports.now
