use Rattle.std.proofs.Common.{sym, subst}
use Rattle.std.specs.Prelude.{IfOk}
use Rattle.tg_play.proofs.Means.{means}
use Rattle.tg_model.specs.Kinds.{EventOf}
use Rattle.tg_protocol.specs.Worlds.{happens}
use Rattle.tg_world.specs.Kept.{KeepsWorld}
use Rattle.tg_world.proofs.Events.{lose_keeps}
use Rattle.tg_world.proofs.world.World.step.Goals as goal

pub returns-in-Command-clause-keeps : goal.returns-in-Command-clause-keeps
returns-in-Command-clause-keeps g c = λ w h.
    let m = means g.K.Kind g.K.Registry in
    subst (λ (e : EventOf m). IfOk c.command.result (λ r. KeepsWorld m r (happens m w e))) (sym c.in-Command.is) (c.command.ensures.keeps w h)

pub returns-in-Deliver-clause-keeps : goal.returns-in-Deliver-clause-keeps
returns-in-Deliver-clause-keeps g c = λ w h.
    let m = means g.K.Kind g.K.Registry in
    subst (λ (e : EventOf m). IfOk c.deliver.result (λ r. KeepsWorld m r (happens m w e))) (sym c.in-Deliver.is) (c.deliver.ensures.keeps w h)

pub returns-in-Lose-clause-keeps : goal.returns-in-Lose-clause-keeps
returns-in-Lose-clause-keeps g c = λ w h.
    let m = means g.K.Kind g.K.Registry in
    subst (λ (e : EventOf m). KeepsWorld m c.lose.result (happens m w e)) (sym c.in-Lose.is)
    (lose_keeps m c.args.self c.lose.result w c.rules.ensures.whole h c.in-Lose.packet c.lose.ensures)

pub returns-in-Tick-clause-keeps : goal.returns-in-Tick-clause-keeps
returns-in-Tick-clause-keeps g c = λ w h.
    let m = means g.K.Kind g.K.Registry in
    subst (λ (e : EventOf m). IfOk c.tick.result (λ r. KeepsWorld m r (happens m w e))) (sym c.in-Tick.is) (c.tick.ensures.keeps w h)

pub returns-in-Stop-clause-keeps : goal.returns-in-Stop-clause-keeps
returns-in-Stop-clause-keeps g c = λ w h.
    let m = means g.K.Kind g.K.Registry in
    subst (λ (e : EventOf m). IfOk c.stop.result (λ r. KeepsWorld m r (happens m w e))) (sym c.in-Stop.is) (c.stop.ensures.keeps w h)
