use Rattle.std.proofs.Common.{◌≤◌, length, ap, sym, subst, ◌∙◌}
use Rattle.tg_base.specs.Layouts.{Layout}
use Rattle.tg_proj.specs.Refusals.{units_of as units_in}
use Rattle.tg_protocol.specs.Words.{with_nums}
use Rattle.tg_chain.proofs.Rising.{few_units}
use Rattle.tg_chain.proofs.units.units_of.Goals as goal

pub returns-clause-few : goal.returns-clause-few
returns-clause-few c =
    let ranges = c.as_slice.ensures ∙ ap (λ (q : Layout). q.ranges) c.proj.view_is in
    let made = c.in_ok-put_ranges.ensures ∙ ap (λ rs. with_nums (units_in rs) c.new-units.result) ranges ∙ ap (with_nums (units_in c.args.proj.now.ranges)) c.new-units.ensures in
    subst (λ us. length us ≤ 64) (sym made) (few_units c.args.proj.now c.rules.ensures.rules)
