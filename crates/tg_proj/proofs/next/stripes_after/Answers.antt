use Rattle.std.proofs.Common.{ℕ, ◌++◌, [], ◌∷◌, take, sym, ap, ◌∙◌}
use Rattle.tg_proj.specs.Next.{next_chain, next_chains}
use Rattle.tg_proj.proofs.Chains.{next_chains_step}
use Rattle.tg_proj.proofs.next.stripes_after.Goals as goal

pub loop-stripe-preserved : goal.loop-stripe-preserved
loop-stripe-preserved c =
    let change = c.args.change.now in
    let stripes = c.args.stripes.now in
    let n = c.args.range in
    let i : ℕ = c.loop-stripe.stripe in
    let chain = c.index-stripes-stripe.result in
    c.in_ok-push.ensures.ok
    ∙ ap (λ xs. xs ++ c.follow.result ∷ []) c.loop-stripe.invariant
    ∙ ap (λ x. next_chains change n 0 (take i stripes) ++ x ∷ []) (c.follow.ensures ∙ ap (next_chain change n i) c.index-stripes-stripe.is)
    ∙ sym (next_chains_step change n stripes i chain c.loop-stripe-test.true)
