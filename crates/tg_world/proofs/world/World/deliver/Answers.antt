use Rattle.tg_play.proofs.Means.{means}
use Rattle.tg_world.proofs.Whole.{whole_of}
use Rattle.tg_world.proofs.Events.{deliver_none, idle_keeps}
use Rattle.tg_world.proofs.Happening.{not_sent}
use Rattle.tg_world.proofs.world.World.deliver.Goals as goal

pub returns-in-None-clause-keeps : goal.returns-in-None-clause-keeps
returns-in-None-clause-keeps g c = λ w h.
    let m = means g.K.Kind g.K.Registry in
    let whole = whole_of m _ c.args.self c.self.view_is c.self.invariant in
    deliver_none m c.args.self c.idle.result w whole h c.args.number (not_sent m _ c.args.self c.self.view_is c.args.number c.receiver.result c.receiver.ensures c.in-None.is) (idle_keeps m c.args.self c.idle.result w whole h c.idle.ensures)
