use Rattle.std.proofs.Common.{◌≡◌, ◌+◌, ◌++◌, sym, subst, ap, ◌∙◌}
use Rattle.tg_base.specs.Layouts.{Layout, IsLayout}
use Rattle.tg_proj.specs.Follows.{Follows}
use Rattle.tg_proj.specs.Next.{next_gone, next_ranges, next_layout, opened_at, RangesFit}
use Rattle.tg_proj.proofs.Allowed.{ranges_fit}
use Rattle.tg_proj.proofs.Following.{next_keeps_rules, next_follows}
use Rattle.tg_proj.proofs.next.next_of.Goals as goal

pub ranges_after-requires : goal.ranges_after-requires
ranges_after-requires c =
    let ranges = c.as_slice.ensures ∙ ap (λ l. l.ranges) c.old.view_is in
    subst (RangesFit c.args.change.now) (sym ranges) (ranges_fit c.args.old.now c.args.change.now c.rules.ensures.rules c.requires.may.allowed)

-- the fields are those of the next layout
made : (c : goal.In_ok-with_opened)
    → ◌≡◌ {A = Layout} (record { epoch = c.old.inside.epoch + 1; seq = c.change.inside.seq; start = c.args.start; by = c.args.by; gone = c.in_ok-gone_after.field-0; ranges = c.in_ok-with_opened.field-0 })
    (next_layout c.args.old.now c.args.change.now c.args.by c.args.start)
made c =
    let p = c.args.old.now in
    let change = c.args.change.now in
    let start = c.args.start in
    let gone = c.in_ok-gone_after.ensures ∙ ap (λ l. next_gone l.gone c.as_slice-2.result.now) c.old.view_is
    ∙ ap (next_gone p.gone) (c.as_slice-2.ensures ∙ ap (λ x. x.drop) c.change.view_is) in
    let kept = c.in_ok-kept.ensures ∙ ap (next_ranges change 0) (c.as_slice.ensures ∙ ap (λ l. l.ranges) c.old.view_is) in
    let ranges = c.in_ok-with_opened.ensures ∙ ap (λ x. c.in_ok-kept.kept ++ opened_at x.opened start) c.change.view_is
    ∙ ap (λ xs. xs ++ opened_at change.opened start) kept in
    let epoch = ap (λ l. l.epoch + 1) c.old.view_is in
    let seq = ap (λ x. x.seq) c.change.view_is in
    λ i. record { epoch = epoch i; seq = seq i; start = start; by = c.args.by; gone = gone i; ranges = ranges i }

pub invariant_of-result : goal.invariant_of-result
invariant_of-result c =
    subst IsLayout (sym (made c)) (next_keeps_rules c.args.old.now c.args.change.now c.args.by c.args.start c.rules.ensures.rules c.rules-2.ensures c.requires.may)

pub returns-clause-follows : goal.returns-clause-follows
returns-clause-follows c =
    subst (Follows c.args.old.now c.args.change.now) (sym (made c)) (next_follows c.args.old.now c.args.change.now c.args.by c.args.start c.rules.ensures.rules c.requires.may)
