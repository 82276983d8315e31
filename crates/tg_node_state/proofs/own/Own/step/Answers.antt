use Rattle.std.proofs.Common.{◌+◌, IfOk, sym, subst}
use Rattle.tg_play.proofs.Means.{means}
use Rattle.tg_node_state.specs.Nodes.{InputOf, node_step}
use Rattle.tg_node_state.specs.Kept.{KeepsTurn}
use Rattle.tg_node_state.proofs.own.Own.step.Goals as goal

pub returns-in-Tick : goal.returns-in-Tick
unfolding node_step
returns-in-Tick g c = λ steps n k.
    let m = means g.K.Kind g.K.Registry in
    subst (λ (i : InputOf m). IfOk c.tick.result (λ t. KeepsTurn m (steps + 1) t (node_step m n i))) (sym c.in-Tick.is) (c.tick.ensures steps n k)

pub returns-in-Packet : goal.returns-in-Packet
unfolding node_step
returns-in-Packet g c = λ steps n k.
    let m = means g.K.Kind g.K.Registry in
    subst (λ (i : InputOf m). IfOk c.deliver.result (λ t. KeepsTurn m (steps + 1) t (node_step m n i))) (sym c.in-Packet.is) (c.deliver.ensures steps n k)

pub returns-in-Command : goal.returns-in-Command
unfolding node_step
returns-in-Command g c = λ steps n k.
    let m = means g.K.Kind g.K.Registry in
    subst (λ (i : InputOf m). IfOk c.command.result (λ t. KeepsTurn m (steps + 1) t (node_step m n i))) (sym c.in-Command.is) (c.command.ensures steps n k)
