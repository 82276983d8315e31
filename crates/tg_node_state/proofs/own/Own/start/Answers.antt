use Rattle.std.proofs.Common.{IfOk, sym, subst}
use Rattle.tg_base.specs.declared.ids.Role.{Role}
use Rattle.tg_play.proofs.Means.{means}
use Rattle.tg_node_state.specs.Nodes.{begins}
use Rattle.tg_node_state.specs.Kept.{KeepsNode}
use Rattle.tg_node_state.proofs.own.Own.start.Goals as goal

pub returns-in-Unit : goal.returns-in-Unit
returns-in-Unit g c = λ steps.
    let m = means g.K.Kind g.K.Registry in
    subst (λ (r : Role). KeepsNode m steps c.new_unit.result (begins m c.args.cluster.now c.args.node.num r)) (sym c.in-Unit.is) (c.new_unit.ensures steps)

pub returns-in-Layout : goal.returns-in-Layout
returns-in-Layout g c = λ steps.
    let m = means g.K.Kind g.K.Registry in
    subst (λ (r : Role). IfOk c.new_layout.result (λ k. KeepsNode m steps k (begins m c.args.cluster.now c.args.node.num r))) (sym c.in-Layout.is) (c.new_layout.ensures steps)

pub returns-in-Seqr : goal.returns-in-Seqr
returns-in-Seqr g c = λ steps.
    let m = means g.K.Kind g.K.Registry in
    subst (λ (r : Role). IfOk c.new_seqr.result (λ k. KeepsNode m steps k (begins m c.args.cluster.now c.args.node.num r))) (sym c.in-Seqr.is) (c.new_seqr.ensures steps)

pub returns-in-Client : goal.returns-in-Client
returns-in-Client g c = λ steps.
    let m = means g.K.Kind g.K.Registry in
    subst (λ (r : Role). IfOk c.new_client.result (λ k. KeepsNode m steps k (begins m c.args.cluster.now c.args.node.num r))) (sym c.in-Client.is) (c.new_client.ensures steps)
