use Rattle.std.proofs.Common.{ℕ, get_or, take, sym, ap, ◌∙◌}
use Rattle.std.specs.Prelude.{fold}
use Rattle.std.specs.List.{concat}
use Rattle.std.proofs.lemmas.List.{take_more}
use Rattle.tg_proj.specs.Refusals.{less_unacked}
use Rattle.tg_proj.proofs.Chains.{fold_chain}
use Rattle.tg_proj.proofs.refusal.least_of_chains.Goals as goal

pub loop-chain-preserved : goal.loop-chain-preserved
loop-chain-preserved c =
    let f = less_unacked c.args.acks.now in
    let chains = c.args.chains.now in
    let i : ℕ = c.loop-chain.chain-index in
    let chain = c.chain-item.result in
    c.least_of-best.ensures
    ∙ ap (fold f c.loop-chain.best) (c.as_slice.ensures.units ∙ c.chain-item.is)
    ∙ ap (λ b. fold f b (get_or chains i chain)) c.loop-chain.invariant
    ∙ sym (fold_chain f c.args.best (take i chains) (get_or chains i chain))
    ∙ ap (λ xs. fold f c.args.best (concat xs)) (sym (take_more chains i chain c.loop-chain-test.true))
