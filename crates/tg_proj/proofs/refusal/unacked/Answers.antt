use Rattle.std.proofs.Common.{None, sym, ap, ◌∙◌, ◌++◌}
use Rattle.std.specs.Prelude.{fold}
use Rattle.std.specs.List.{concat}
use Rattle.tg_proj.specs.Next.{next_ranges, opened_at}
use Rattle.tg_proj.specs.Refusals.{less_unacked, units_of}
use Rattle.tg_proj.proofs.Chains.{fold-append, units_of-append, units_of-opened}
use Rattle.tg_proj.proofs.refusal.unacked.Goals as goal

pub returns : goal.returns
returns c =
    let f = less_unacked c.args.acks.now in
    let change = c.args.change.now in
    let kept = next_ranges change 0 c.args.old.now.ranges in
    let more = opened_at change.opened 0 in
    let opened = c.as_slice-2.ensures ∙ ap (λ x. x.opened) c.change.view_is in
    let ranges = c.as_slice.ensures ∙ ap (λ x. x.ranges) c.old.view_is in
    c.least_of_chains.ensures
    ∙ ap (λ xs. fold f c.least_of_ranges-best.result (concat xs)) opened
    ∙ ap (λ b. fold f b (concat change.opened)) (c.least_of_ranges-best.ensures ∙ ap (λ xs. fold f None (units_of (next_ranges change 0 xs))) ranges)
    ∙ sym (fold-append f None (units_of kept) (concat change.opened))
    ∙ ap (λ us. fold f None (units_of kept ++ us)) (sym (units_of-opened change.opened 0))
    ∙ ap (fold f None) (sym (units_of-append kept more))
