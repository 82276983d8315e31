use Rattle.std.proofs.Common.{◌≡◌, None, sym, ◌∙◌, rules}
use Rattle.tg_script.proofs.Clusters.{few_first, outside_2, no_header}
use Rattle.tg_script.proofs.header.header_with_sizes.Goals as goal

pub read_chains-requires : goal.read_chains-requires
read_chains-requires c = few_first c.args.lines.now c.args.sizes c.requires.first

pub returns-in_default-clause-only : goal.returns-in_default-clause-only
returns-in_default-clause-only c = λ h lawful is.
    let none : c.in_ok-chains.field-0 ≡ None = search rules in
    absurd (no_header c.args.lines.now 2 (outside_2 c.args.lines.now c.args.sizes c.requires.first (sym c.in_ok-chains.ensures ∙ none)) h lawful is)

pub returns-in_default-clause-outside : goal.returns-in_default-clause-outside
returns-in_default-clause-outside c =
    let none : c.in_ok-chains.field-0 ≡ None = search rules in
    outside_2 c.args.lines.now c.args.sizes c.requires.first (sym c.in_ok-chains.ensures ∙ none)
