use Rattle.std.proofs.Common.{ℕ, None, get_or, take, sym, ap, ◌∙◌}
use Rattle.std.specs.Prelude.{fold}
use Rattle.std.specs.List.{concat}
use Rattle.tg_proj.specs.Next.{next_chains, next_range, next_ranges}
use Rattle.tg_proj.specs.Refusals.{less_unacked, units_of}
use Rattle.tg_proj.proofs.Chains.{next_ranges_step, fold_range}
use Rattle.tg_proj.proofs.refusal.least_of_ranges.Goals as goal

pub loop-number-preserved : goal.loop-number-preserved
loop-number-preserved c =
    let f = less_unacked c.args.acks.now in
    let change = c.args.change.now in
    let ranges = c.args.ranges.now in
    let i : ℕ = c.loop-number.number in
    let range = c.index-ranges-number.result in
    let chains = next_chains change i 0 in
    let after = next_range change i (get_or ranges i range) in
    c.least_of_stripes-best.ensures
    ∙ ap (λ xs. fold f c.loop-number.best (concat (chains xs))) (c.as_slice.ensures ∙ ap (λ r. r.stripes) c.index-ranges-number.is)
    ∙ ap (λ b. fold f b (concat after.stripes)) c.loop-number.invariant
    ∙ sym (fold_range f None (next_ranges change 0 (take i ranges)) after)
    ∙ ap (λ xs. fold f None (units_of xs)) (sym (next_ranges_step change ranges i range c.loop-number-test.true))
