use Rattle.tg_reconf.proofs.Drawing.{accepts_fresh}
use Rattle.tg_reconf.proofs.agreeing.on_promises.Goals as goal

pub send-requires-clause-new : goal.send-requires-clause-new
send-requires-clause-new c = accepts_fresh c.args.plan _ _ _ _ _ _ _ _ c.in_ok-waits.ensures.waits c.in_ok-waits.ensures.next
