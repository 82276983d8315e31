use Rattle.std.proofs.Common.{◌≡◌, ◌++◌, List, ℕ, Err, sym, subst, ap, ◌∙◌, rules}
use Rattle.tg_any.specs.Words.{texts}
use Rattle.tg_script.specs.Headers.{header_lines, lines_text, OnOutside}
use Rattle.tests_texts.specs.Texts.{AreEventLines, AreScript, closed_lines}
use Rattle.tests_texts.proofs.Printed.{event_refused, script_is, script_printed}
use Rattle.tests_texts.proofs.scripts.lines_again.Goals as goal

pub returns-in_err-put_events-clause-outside : goal.returns-in_err-put_events-clause-outside
returns-in_err-put_events-clause-outside c =
    let err : c.from_residual-in_err-put_events.result ≡ Err c.in_err-put_events.field-0.0 = search rules in
    subst (λ r. OnOutside r (λ _. AreScript (texts c.args.lines.now) → ⊥)) (sym err)
    (event_refused (texts c.args.lines.now) c.in_ok-cluster.cluster c.in_err-put_events.field-0.0
    (λ h lawful e. c.in_ok-cluster.ensures.only h lawful (c.header_and_events.ensures.header ∙ e))
    (subst (λ ls. OnOutside {A = Unit {0}} (Err c.in_err-put_events.field-0.0) (λ _. AreEventLines c.in_ok-cluster.cluster ls → ⊥)) c.header_and_events.ensures.events c.in_err-put_events.ensures.outside))

pub returns-clause-script : goal.returns-clause-script
returns-clause-script c =
    script_is (texts c.args.lines.now) c.in_ok-cluster.cluster c.in_ok-cluster.ensures.lawful (sym c.header_and_events.ensures.header ∙ c.in_ok-cluster.ensures.found)
    (subst (AreEventLines c.in_ok-cluster.cluster) c.header_and_events.ensures.events c.in_ok-put_events.ensures.events)

pub returns-clause-printed : goal.returns-clause-printed
returns-clause-printed c =
    c.in_ok-put_events.ensures.printed ∙ ap (λ (x : List ℕ). x ++ closed_lines (texts c.header_and_events.result.1.now)) (c.in_ok-print_header.ensures.ok ∙ ap (λ (x : List ℕ). x ++ lines_text (header_lines c.in_ok-cluster.cluster)) c.new-out.ensures)
    ∙ ap (λ (x : List (List ℕ)). lines_text (header_lines c.in_ok-cluster.cluster) ++ closed_lines x) c.header_and_events.ensures.events
    ∙ script_printed (texts c.args.lines.now) c.in_ok-cluster.cluster (sym c.header_and_events.ensures.header ∙ c.in_ok-cluster.ensures.found)
