use Rattle.std.proofs.Common.{ℕ, get_or, take, sym, ap, ◌∙◌}
use Rattle.std.specs.Prelude.{fold}
use Rattle.std.specs.List.{concat}
use Rattle.tg_proj.specs.Next.{next_chain, next_chains}
use Rattle.tg_proj.specs.Refusals.{less_unacked}
use Rattle.tg_proj.proofs.Chains.{next_chains_step, fold_chain}
use Rattle.tg_proj.proofs.refusal.least_of_stripes.Goals as goal

pub loop-stripe-preserved : goal.loop-stripe-preserved
loop-stripe-preserved c =
    let f = less_unacked c.args.acks.now in
    let change = c.args.change.now in
    let stripes = c.args.stripes.now in
    let i : ℕ = c.loop-stripe.stripe in
    let chain = c.index-stripes-stripe.result in
    let before = next_chains change c.args.range 0 (take i stripes) in
    c.least_of-best.ensures
    ∙ ap (fold f c.loop-stripe.best) (c.as_slice.ensures.units ∙ c.follow.ensures ∙ ap (next_chain change c.args.range i) c.index-stripes-stripe.is)
    ∙ ap (λ b. fold f b (next_chain change c.args.range i (get_or stripes i chain))) c.loop-stripe.invariant
    ∙ sym (fold_chain f c.args.best before (next_chain change c.args.range i (get_or stripes i chain)))
    ∙ ap (λ xs. fold f c.args.best (concat xs)) (sym (next_chains_step change c.args.range stripes i chain c.loop-stripe-test.true))
