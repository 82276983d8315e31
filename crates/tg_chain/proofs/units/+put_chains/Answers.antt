use Rattle.std.proofs.Common.{◌≡◌, sym, ap, subst, ◌∙◌}
use Rattle.std.specs.Prelude.{OnOk}
use Rattle.tg_protocol.specs.Words.{with_nums}
use Rattle.tg_chain.proofs.Rising.{chains_step}
use Rattle.tg_chain.proofs.units.+put_chains.Goals as goal

pub returns-in_ok-put_chains-in-len1-up : goal.returns-in_ok-put_chains-in-len1-up
returns-in_ok-put_chains-in-len1-up t c =
    let e = ap (λ xs. with_nums xs c.put_chains.new.units) c.as_slice.ensures.units ∙ ap (with_nums c.chain-item.result) c.in_ok-put_chains-in-len1-up.ensures
    ∙ sym (chains_step c.args.chains.now c.chain-item.result c.args.units.now c.in-len1-up.len_at_least c.chain-item.is) in
    subst (λ ys. OnOk c.put_units.result (c.put_units.new.units ≡ ys)) e c.put_units.ensures
