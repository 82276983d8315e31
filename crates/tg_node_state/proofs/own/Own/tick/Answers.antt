use Rattle.std.proofs.Common.{◌≡◌, ◌+◌, IfOk, refl, sym, subst}
use Rattle.tg_play.proofs.Means.{means}
use Rattle.tg_node_state.specs.Nodes.{Node, node_ticks, UnitNode, LayoutNode}
use Rattle.tg_node_state.specs.Kept.{Kept, KeepsNode, KeepsTurn, IsNode}
use Rattle.tg_node_state.proofs.Roles.{unit_kept, layout_kept, seqr_kept, client_kept, seqr_room, client_is, client_room}
use Rattle.tg_node_state.proofs.own.Own.tick.Goals as goal

pub seqr_ticks-requires : goal.seqr_ticks-requires
seqr_ticks-requires g c = let m = means g.K.Kind g.K.Registry in seqr_room m c.in-Seqr.seqr (subst (λ (k : Kept m). IsNode m 199999 k) c.in-Seqr.is c.requires)

pub client_ticks-requires : goal.client_ticks-requires
client_ticks-requires g c =
    let m = means g.K.Kind g.K.Registry in
    let is = subst (λ (k : Kept m). IsNode m 199999 k) c.in-Client.is c.requires in
    record { kept = client_is m c.in-Client.client is; room = client_room m c.in-Client.client is }

pub returns-in-Unit : goal.returns-in-Unit
returns-in-Unit g c = λ steps n k.
    let m = means g.K.Kind g.K.Registry in
    unit_kept m steps c.in-Unit.unit n (λ (x : Node m). KeepsTurn m (steps + 1) c.still.result (node_ticks m x)) (subst (λ (o : Kept m). KeepsNode m steps o n) c.in-Unit.is k)
    (record { now = subst (λ (o : Kept m). KeepsNode m (steps + 1) o (UnitNode c.in-Unit.unit)) (sym c.still.ensures.own) refl; sends = c.still.ensures.sends; notes = c.still.ensures.notes })

pub returns-in-Layout : goal.returns-in-Layout
returns-in-Layout g c = λ steps n k.
    let m = means g.K.Kind g.K.Registry in
    layout_kept m steps c.in-Layout.layout n (λ (x : Node m). KeepsTurn m (steps + 1) c.still-in-Layout.result (node_ticks m x)) (subst (λ (o : Kept m). KeepsNode m steps o n) c.in-Layout.is k)
    (record { now = subst (λ (o : Kept m). KeepsNode m (steps + 1) o (LayoutNode c.in-Layout.layout)) (sym c.still-in-Layout.ensures.own) refl; sends = c.still-in-Layout.ensures.sends; notes = c.still-in-Layout.ensures.notes })

pub returns-in-Seqr : goal.returns-in-Seqr
returns-in-Seqr g c = λ steps n k.
    let m = means g.K.Kind g.K.Registry in
    seqr_kept m steps c.in-Seqr.seqr n (λ (x : Node m). IfOk c.seqr_ticks.result (λ t. KeepsTurn m (steps + 1) t (node_ticks m x)))
    (subst (λ (o : Kept m). KeepsNode m steps o n) c.in-Seqr.is k) (λ le. c.seqr_ticks.ensures steps le)

pub returns-in-Client : goal.returns-in-Client
returns-in-Client g c = λ steps n k.
    let m = means g.K.Kind g.K.Registry in
    client_kept m steps c.in-Client.client n (λ (x : Node m). IfOk c.client_ticks.result (λ t. KeepsTurn m (steps + 1) t (node_ticks m x)))
    (subst (λ (o : Kept m). KeepsNode m steps o n) c.in-Client.is k) (λ d h le. c.client_ticks.ensures steps d h le)
