use Rattle.std.proofs.Common.{◌-◌, length, take, drop, ap, sym, ◌∙◌}
use Rattle.std.specs.Prelude.{find}
use Rattle.std.specs.List.{concat}
use Rattle.tg_proj.specs.Refusals.{is_out}
use Rattle.tg_proj.proofs.Chains.{found_first, found_later, first_chain}
use Rattle.tg_proj.proofs.refusal.+first_out_of_chains.Goals as goal

pub returns-in-Some : goal.returns-in-Some
returns-in-Some t c =
    let p = is_out c.args.old.now c.args.change.now in
    let chain = c.chain-item.result in
    let here = ap (find p) (sym c.as_slice.ensures.units) ∙ sym c.first_out.ensures ∙ c.in-Some.is in
    sym (ap (find p) (first_chain c.args.chains.now chain c.in-len1-up.len_at_least c.chain-item.is)
    ∙ found_first p chain (concat (take (length c.args.chains.now - 1) (drop 1 c.args.chains.now))) c.in-Some.unit here)

pub returns-in-None : goal.returns-in-None
returns-in-None t c =
    let p = is_out c.args.old.now c.args.change.now in
    let chain = c.chain-item.result in
    let here = ap (find p) (sym c.as_slice.ensures.units) ∙ sym c.first_out.ensures ∙ c.in-None.is in
    c.first_out_of_chains.ensures ∙ sym (ap (find p) (first_chain c.args.chains.now chain c.in-len1-up.len_at_least c.chain-item.is)
    ∙ found_later p chain (concat (take (length c.args.chains.now - 1) (drop 1 c.args.chains.now))) here)
