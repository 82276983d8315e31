use Rattle.std.proofs.Common.{◌≡◌, Option, Some, None, IfSome, sym, subst, ap, ◌∙◌}
use Rattle.tg_script.specs.Lines.{IsLine}
use Rattle.tg_script.specs.declared.line.Line.{Line}
use Rattle.tg_node.specs.declared.asked.Asked.{Asked}
use Rattle.tg_any.proofs.Fronts.{if_some}
use Rattle.tg_node.specs.Lines.{IsAsked, own_read, asked_of}
use Rattle.tg_node.proofs.Reading.{own_takes, own_only, line_again, line_takes}
use Rattle.tg_node.proofs.asked.parse_asked.Goals as goal

pub returns-in-Some-clause-found : goal.returns-in-Some-clause-found
returns-in-Some-clause-found c = own_takes c.args.cluster.now c.args.node c.args.text.now c.in-Some.asked (sym c.read_own.ensures ∙ c.in-Some.is)

pub returns-in-Some-clause-only : goal.returns-in-Some-clause-only
returns-in-Some-clause-only c = λ a is. ap (λ (x : Asked). Some x) (own_only c.args.cluster.now c.args.node c.args.text.now c.in-Some.asked a (sym c.read_own.ensures ∙ c.in-Some.is) is)

pub returns-in_default-2-clause-only : goal.returns-in_default-2-clause-only
returns-in_default-2-clause-only c = λ a is.
    let none : own_read c.args.text.now ≡ None = sym c.read_own.ensures ∙ c.in_default.is in
    let m = line_again c.args.cluster.now c.args.node c.args.text.now a none is in
    let found : c.in_ok-line.field-0 ≡ Some m.line = c.in_ok-line.ensures.only m.line m.is in
    let other = c.in_default-2.is in
    absurd cc

pub returns-clause-found : goal.returns-clause-found
returns-clause-found c =
    let h = c.args.cluster.now in
    let text = c.args.text.now in
    let is = subst (λ (o : Option Line). IfSome o (IsLine h text)) c.in-Some-2.is c.in_ok-line.ensures.found in
    if_some c.of_line.result (asked_of c.args.node c.in-Some-2.line) (IsAsked h c.args.node text) c.of_line.ensures (λ a e. line_takes h c.args.node text c.in-Some-2.line a is e)

pub returns-clause-only : goal.returns-clause-only
returns-clause-only c = λ a is.
    let none : own_read c.args.text.now ≡ None = sym c.read_own.ensures ∙ c.in_default.is in
    let m = line_again c.args.cluster.now c.args.node c.args.text.now a none is in
    let found : c.in_ok-line.field-0 ≡ Some m.line = c.in_ok-line.ensures.only m.line m.is in
    let here : c.in_ok-line.field-0 ≡ Some c.in-Some-2.line = c.in-Some-2.is in
    let same : c.in-Some-2.line ≡ m.line = cc in
    c.of_line.ensures ∙ ap (asked_of c.args.node) same ∙ m.asks
