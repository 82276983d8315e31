use Rattle.std.proofs.Common.{◌≡◌, ◌≤◌, ◌-◌, subst, sym, ap, ◌∙◌}
use Rattle.tg_proj.specs.Places.{IsRangeOf}
use Rattle.tg_proj.proofs.Ranges.{reached, some_reached, range_found}
use Rattle.tg_proj.proofs.place.range_of.Goals as goal

total : (c : goal.After-count_reached) → c.count_reached.result ≡ reached c.args.pos c.args.p.now.ranges
total c = c.count_reached.ensures ∙ ap (reached c.args.pos) (c.as_slice.ensures ∙ ap (λ l. l.ranges) c.p.view_is)

pub overflow_sub-result : goal.overflow_sub-result
overflow_sub-result c = subst (λ n. 1 ≤ n) (sym (total c)) (some_reached c.args.p.now c.args.pos c.rules.ensures.rules)

pub returns-clause-last : goal.returns-clause-last
returns-clause-last c =
    subst (IsRangeOf c.args.p.now.ranges c.args.pos) (ap (λ n. n - 1) (sym (total c))) (range_found c.args.p.now c.args.pos c.rules.ensures.rules)
