use Rattle.tg_reconf.proofs.Drawing.{seals_fresh}
use Rattle.tg_reconf.proofs.sealing.seal.Goals as goal

pub send-requires-clause-new : goal.send-requires-clause-new
send-requires-clause-new c = seals_fresh c.args.plan _ _ _ _ _ c.in_ok-waits.ensures.waits c.in_ok-waits.ensures.next
