use Rattle.std.proofs.Common.{ℕ, List, ◌++◌, [], ◌∷◌, take, sym, ap, ◌∙◌}
use Rattle.tg_base.specs.declared.layout.Range.{Range}
use Rattle.tg_proj.specs.Next.{next_chains, next_range, next_ranges}
use Rattle.tg_proj.proofs.Chains.{next_ranges_step}
use Rattle.tg_proj.proofs.next.ranges_after.Goals as goal

pub loop-number-preserved : goal.loop-number-preserved
loop-number-preserved c =
    let change = c.args.change.now in
    let ranges = c.args.ranges.now in
    let i : ℕ = c.loop-number.number in
    let range = c.index-ranges-number.result in
    let made : List (List ℕ) → Range = λ xs. record { lo = range.lo; stripes = xs } in
    let stripes = c.in_ok-stripes_after.ensures ∙ ap (next_chains change i 0) c.as_slice.ensures in
    c.in_ok-push.ensures.ok
    ∙ ap (λ xs. xs ++ made c.in_ok-stripes_after.field-0 ∷ []) c.loop-number.invariant
    ∙ ap (λ xs. next_ranges change 0 (take i ranges) ++ made xs ∷ []) stripes
    ∙ ap (λ r. next_ranges change 0 (take i ranges) ++ next_range change i r ∷ []) c.index-ranges-number.is
    ∙ sym (next_ranges_step change ranges i range c.loop-number-test.true)
