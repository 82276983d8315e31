use Rattle.tg_link_udp.specs.Sockets.{sent_to}
use Rattle.tg_link_udp.proofs.Loops.{goes_on}
use Rattle.tg_link_udp.proofs.link.expect_at.Goals as goal

pub loop-port-preserved : goal.loop-port-preserved
loop-port-preserved c = goes_on (sent_to c.args.node) c.args.ports.now c.loop-port.ports c.loop-port.port-index c.expect.new.port _ c.loop-port-test.true c.loop-port.auto.ports c.loop-port.invariant c.expect.ensures
