use Rattle.std.proofs.Common.{◌≡◌, Some, None, sym, ◌∙◌, rules}
use Rattle.tg_script.specs.Headers.{header_lines}
use Rattle.tg_base.specs.Clusters.{IsHeader}
use Rattle.tg_script.proofs.Clusters.{header_of, read_lines, same_header, outside_3, no_header}
use Rattle.tg_script.proofs.header.header_with_chains.Goals as goal

pub returns-in_default-clause-only : goal.returns-in_default-clause-only
returns-in_default-clause-only c = λ h lawful is.
    let none : c.in_ok-objects.field-0 ≡ None = search rules in
    absurd (no_header c.args.lines.now 3 (outside_3 c.args.lines.now c.args.sizes c.args.chains c.requires.first c.requires.second (sym c.in_ok-objects.ensures ∙ none)) h lawful is)

pub returns-in_default-clause-outside : goal.returns-in_default-clause-outside
returns-in_default-clause-outside c =
    let none : c.in_ok-objects.field-0 ≡ None = search rules in
    outside_3 c.args.lines.now c.args.sizes c.args.chains c.requires.first c.requires.second (sym c.in_ok-objects.ensures ∙ none)

-- what the three lines tell
read : (c : goal.In-Some) → (c.args.lines.now ≡ header_lines (header_of c.args.sizes c.args.chains c.in-Some.objects)) × IsHeader (header_of c.args.sizes c.args.chains c.in-Some.objects)
read c =
    let is : c.in_ok-objects.field-0 ≡ Some c.in-Some.objects = search rules in
    read_lines c.args.lines.now c.args.sizes c.args.chains c.in-Some.objects c.requires.few c.requires.first c.requires.second (sym c.in_ok-objects.ensures ∙ is)

pub invariant_of-result : goal.invariant_of-result
invariant_of-result c = (read c).1

pub returns-clause-found : goal.returns-clause-found
returns-clause-found c = (read c).0

pub returns-clause-only : goal.returns-clause-only
returns-clause-only c = λ h lawful is. same_header (header_of c.args.sizes c.args.chains c.in-Some.objects) h (read c).1 lawful c.args.lines.now (read c).0 is
