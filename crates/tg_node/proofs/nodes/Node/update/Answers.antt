use Rattle.std.proofs.Common.{◌≡◌, [], ◌∷◌, ◌∙◌, sym}
use Rattle.std.proofs.lemmas.Result.{IfOk-weaker}
use Rattle.tg_model.specs.declared.command.Command.TheVariants as cmd
use Rattle.tg_node_state.specs.declared.input.Input.TheVariants as input
use Rattle.tg_node.proofs.Stepping.{on_err, makes_by, makes_part, makes_more, makes_on, does_by, breaks_by, does_part, does_both, breaks_first, breaks_later, ok_both, err_both}
use Rattle.tg_node.proofs.nodes.Node.update.Goals as goal

pub returns-then-is_some-clause-makes : goal.returns-then-is_some-clause-makes
returns-then-is_some-clause-makes g c =
    let p = c.args.place in
    let one = makes_by p c.begin.result (input.Command cmd.Begin) c.args.self c.in_ok-begun.begun _ _ c.begin.ensures c.in_ok-begun.ensures.makes in
    makes_part p (input.Command cmd.Begin ∷ []) (input.Command (cmd.Put c.args.oid c.args.op) ∷ input.Command cmd.End ∷ []) c.args.self c.in_ok-begun.begun _ _ (sym c.is_some.ensures ∙ c.if-is_some.true) c.requires.steps one

pub returns-clause-makes : goal.returns-clause-makes
returns-clause-makes g c =
    let p = c.args.place in
    let one = makes_by p c.begin.result (input.Command cmd.Begin) c.args.self c.in_ok-begun.begun _ _ c.begin.ensures c.in_ok-begun.ensures.makes in
    IfOk-weaker c.put_and_end.result _ _
    (λ m h. makes_more p (input.Command cmd.Begin ∷ []) (input.Command (cmd.Put c.args.oid c.args.op) ∷ input.Command cmd.End ∷ []) c.args.self c.in_ok-begun.begun.node m (g.L.Link.sent c.args.link.now) (g.L.Link.sent c.make.new.link) (g.L.Link.sent c.put_and_end.new.link) (makes_on p (input.Command cmd.Begin ∷ []) c.args.self c.in_ok-begun.begun _ _ c.is_some.result one c.is_some.ensures c.if-is_some.false) h) c.put_and_end.ensures.makes

pub returns-clause-received : goal.returns-clause-received
returns-clause-received g c = IfOk-weaker c.put_and_end.result _ _ (λ m e. e ∙ c.in_ok-begun.ensures.received) c.put_and_end.ensures.received

pub returns-then-is_some-clause-does : goal.returns-then-is_some-clause-does
returns-then-is_some-clause-does g c =
    let p = c.args.place in
    let one = makes_by p c.begin.result (input.Command cmd.Begin) c.args.self c.in_ok-begun.begun _ _ c.begin.ensures c.in_ok-begun.ensures.makes in
    let does = does_by p c.begin.result (input.Command cmd.Begin) c.args.self (g.L.Link.sent c.args.link.now) (g.L.Link.acts c.args.link.now) (g.L.Link.acts c.make.new.link) c.begin.ensures c.in_ok-begun.ensures.does in
    does_part p (input.Command cmd.Begin) (input.Command (cmd.Put c.args.oid c.args.op) ∷ input.Command cmd.End ∷ []) c.args.self c.in_ok-begun.begun _ _ (g.L.Link.acts c.args.link.now) (g.L.Link.acts c.make.new.link) (sym c.is_some.ensures ∙ c.if-is_some.true) c.requires.steps one does

pub returns-clause-does : goal.returns-clause-does
returns-clause-does g c =
    let p = c.args.place in
    let one = makes_by p c.begin.result (input.Command cmd.Begin) c.args.self c.in_ok-begun.begun _ _ c.begin.ensures c.in_ok-begun.ensures.makes in
    let does = does_by p c.begin.result (input.Command cmd.Begin) c.args.self (g.L.Link.sent c.args.link.now) (g.L.Link.acts c.args.link.now) (g.L.Link.acts c.make.new.link) c.begin.ensures c.in_ok-begun.ensures.does in
    ok_both c.put_and_end.result _ _ (λ h. does_both p (input.Command cmd.Begin) (input.Command (cmd.Put c.args.oid c.args.op) ∷ input.Command cmd.End ∷ []) c.args.self c.in_ok-begun.begun.node (g.L.Link.sent c.args.link.now) (g.L.Link.sent c.make.new.link) (g.L.Link.acts c.args.link.now) (g.L.Link.acts c.make.new.link) (g.L.Link.acts c.put_and_end.new.link) (makes_on p (input.Command cmd.Begin ∷ []) c.args.self c.in_ok-begun.begun _ _ c.is_some.result one c.is_some.ensures c.if-is_some.false) does h) c.put_and_end.ensures.does

pub returns-clause-breaks : goal.returns-clause-breaks
returns-clause-breaks g c =
    let p = c.args.place in
    let one = makes_by p c.begin.result (input.Command cmd.Begin) c.args.self c.in_ok-begun.begun _ _ c.begin.ensures c.in_ok-begun.ensures.makes in
    let does = does_by p c.begin.result (input.Command cmd.Begin) c.args.self (g.L.Link.sent c.args.link.now) (g.L.Link.acts c.args.link.now) (g.L.Link.acts c.make.new.link) c.begin.ensures c.in_ok-begun.ensures.does in
    err_both c.put_and_end.result _ _ (λ h. breaks_later p (input.Command cmd.Begin) (input.Command (cmd.Put c.args.oid c.args.op) ∷ input.Command cmd.End ∷ []) c.args.self c.in_ok-begun.begun.node (g.L.Link.sent c.args.link.now) (g.L.Link.sent c.make.new.link) (g.L.Link.acts c.args.link.now) (g.L.Link.acts c.make.new.link) (g.L.Link.acts c.put_and_end.new.link) (makes_on p (input.Command cmd.Begin ∷ []) c.args.self c.in_ok-begun.begun _ _ c.is_some.result one c.is_some.ensures c.if-is_some.false) does h) c.put_and_end.ensures.breaks

pub returns-in_err-begun-clause-breaks : goal.returns-in_err-begun-clause-breaks
returns-in_err-begun-clause-breaks g c =
    let p = c.args.place in
    on_err c.from_residual.result (breaks_first p (input.Command cmd.Begin) (input.Command (cmd.Put c.args.oid c.args.op) ∷ input.Command cmd.End ∷ []) c.args.self (g.L.Link.sent c.args.link.now) (g.L.Link.acts c.args.link.now) (g.L.Link.acts c.make.new.link)
    (breaks_by p c.begin.result (input.Command cmd.Begin) c.args.self (g.L.Link.sent c.args.link.now) (g.L.Link.acts c.args.link.now) (g.L.Link.acts c.make.new.link) c.begin.ensures c.in_err-begun.ensures.breaks))
