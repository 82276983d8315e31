use Rattle.tg_link_udp.specs.Sockets.{come_to}
use Rattle.tg_link_udp.proofs.Loops.{goes_on}
use Rattle.tg_link_udp.proofs.link.settle_at.Goals as goal

pub loop-port-preserved : goal.loop-port-preserved
loop-port-preserved c = goes_on (come_to c.args.node) c.args.ports.now c.loop-port.ports c.loop-port.port-index c.settle.new.port _ c.loop-port-test.true c.loop-port.auto.ports c.loop-port.invariant c.settle.ensures
