use Rattle.std.proofs.Common.{◌≡◌, [], ◌∷◌, ◌∙◌, sym, ap, subst}
use Rattle.tg_node.specs.Steps.{Makes}
use Rattle.tg_node.specs.declared.nodes.Moved.{Moved}
use Rattle.tg_node.proofs.Stepping.{on_err, makes_stop, makes_one, room_left, does_stop, does_one, breaks_one}
use Rattle.tg_node.proofs.nodes.Node.make.Goals as goal

pub step-requires-clause-room : goal.step-requires-clause-room
step-requires-clause-room g c = room_left c.args.self.steps c.is_at_limit.result c.is_at_limit.ensures c.if-is_at_limit.false

pub returns-then-is_at_limit-clause-makes : goal.returns-then-is_at_limit-clause-makes
returns-then-is_at_limit-clause-makes g c =
    let sent = g.L.Link.sent c.args.link.now in
    subst (λ (m : Moved). Makes c.args.place (c.args.input ∷ []) c.args.self sent m sent) (sym c.at.ensures)
    (makes_stop c.args.place c.args.input c.args.self sent c.requires (sym c.is_at_limit.ensures ∙ c.if-is_at_limit.true))

pub returns-then-is_at_limit-clause-received : goal.returns-then-is_at_limit-clause-received
returns-then-is_at_limit-clause-received g c = ap (λ (m : Moved). m.node.received) c.at.ensures

pub returns-clause-makes : goal.returns-clause-makes
returns-clause-makes g c =
    let sent = g.L.Link.sent c.args.link.now in
    let after = g.L.Link.sent c.step.new.link in
    subst (λ (m : Moved). Makes c.args.place (c.args.input ∷ []) c.args.self sent m after) (sym c.on.ensures)
    (makes_one c.args.place c.args.input c.args.self c.in_ok-node.node sent after (room_left c.args.self.steps c.is_at_limit.result c.is_at_limit.ensures c.if-is_at_limit.false) c.in_ok-node.ensures.goes c.in_ok-node.ensures.steps
    c.in_ok-node.ensures.sound)

pub returns-clause-received : goal.returns-clause-received
returns-clause-received g c = ap (λ (m : Moved). m.node.received) c.on.ensures ∙ c.in_ok-node.ensures.received

pub returns-then-is_at_limit-clause-does : goal.returns-then-is_at_limit-clause-does
returns-then-is_at_limit-clause-does g c =
    does_stop c.args.place c.args.input c.args.self (g.L.Link.sent c.args.link.now) (g.L.Link.acts c.args.link.now) (sym c.is_at_limit.ensures ∙ c.if-is_at_limit.true)

pub returns-clause-does : goal.returns-clause-does
returns-clause-does g c =
    does_one c.args.place c.args.input c.args.self (g.L.Link.sent c.args.link.now) (g.L.Link.acts c.args.link.now) (g.L.Link.acts c.step.new.link)
    (room_left c.args.self.steps c.is_at_limit.result c.is_at_limit.ensures c.if-is_at_limit.false) c.in_ok-node.ensures.does

pub returns-in_err-node-clause-breaks : goal.returns-in_err-node-clause-breaks
returns-in_err-node-clause-breaks g c =
    on_err c.from_residual.result (breaks_one c.args.place c.args.input c.args.self (g.L.Link.sent c.args.link.now) (g.L.Link.acts c.args.link.now) (g.L.Link.acts c.step.new.link)
    (room_left c.args.self.steps c.is_at_limit.result c.is_at_limit.ensures c.if-is_at_limit.false) c.in_err-node.ensures.breaks)
