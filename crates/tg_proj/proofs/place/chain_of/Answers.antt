use Rattle.std.proofs.Common.{◌≡◌, ◌<◌, ◌-◌, ◌%◌, true, get_or, length, ap, ◌∙◌, arith}
use Rattle.tg_base.specs.Units.{is_chain}
use Rattle.tg_base.specs.Layouts.{is_range}
use Rattle.tg_base.proofs.Rules.{layout_rules}
use Rattle.tg_proj.proofs.Ranges.{stripe_is_chain, each_passes, some_stripe}
use Rattle.tg_proj.proofs.place.chain_of.Goals as goal

pub returns-clause-rules : goal.returns-clause-rules
returns-clause-rules c =
    let n = c.range_of.result in
    let r = c.index-as_slice-range_of.result in
    let chain = c.index-stripes-stripe.result in
    let stripe = (c.args.pos - r.lo) % length r.stripes in
    let found = c.index-as_slice-range_of.is ∙ ap (λ xs. get_or xs n r) (c.as_slice.ensures ∙ ap (λ l. l.ranges) c.p.view_is) in
    let range : is_range r ≡ true =
    ap is_range found ∙ each_passes is_range c.args.p.now.ranges n r c.range_of.ensures.last.there (layout_rules c.args.p.now c.rules.ensures.rules).ranges in
    let some = some_stripe r range in
    let within : stripe < length r.stripes = omega arith in
    ap is_chain (c.copy.ensures ∙ c.index-stripes-stripe.is ∙ ap (λ xs. get_or xs ((c.args.pos - r.lo) % length xs) chain) c.as_slice-stripes.ensures)
    ∙ stripe_is_chain r range stripe chain within
