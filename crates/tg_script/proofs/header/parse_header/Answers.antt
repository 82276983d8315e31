use Rattle.std.proofs.Common.{◌≡◌, None, sym, ◌∙◌, rules}
use Rattle.tg_script.proofs.Clusters.{outside_1, no_header}
use Rattle.tg_script.proofs.header.parse_header.Goals as goal

pub returns-in_default-clause-only : goal.returns-in_default-clause-only
returns-in_default-clause-only c = λ h lawful is.
    let none : c.in_ok-sizes.field-0 ≡ None = search rules in
    absurd (no_header c.args.lines.now 1 (outside_1 c.args.lines.now (sym c.in_ok-sizes.ensures ∙ none)) h lawful is)

pub returns-in_default-clause-outside : goal.returns-in_default-clause-outside
returns-in_default-clause-outside c =
    let none : c.in_ok-sizes.field-0 ≡ None = search rules in
    outside_1 c.args.lines.now (sym c.in_ok-sizes.ensures ∙ none)
