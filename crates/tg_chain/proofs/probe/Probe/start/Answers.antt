use Rattle.tg_chain.proofs.Outs.{probe_started}
use Rattle.tg_chain.proofs.probe.Probe.start.Goals as goal

pub returns-clause-turn : goal.returns-clause-turn
returns-clause-turn c = probe_started (record { chain = c.args.chain; epoch = c.args.epoch; pos = c.args.pos }) c.args.rids.now.next c.wait_for.new.rids.next c.in_ok-waits.waits c.in_ok-outs.outs c.in_ok-waits.ensures.next c.in_ok-waits.ensures.waits c.in_ok-outs.ensures.asks
