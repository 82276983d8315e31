use Rattle.std.proofs.Common.{◌≡◌, sym, ap, subst, ◌∙◌}
use Rattle.std.specs.Prelude.{OnOk}
use Rattle.std.specs.List.{concat}
use Rattle.tg_protocol.specs.Words.{with_nums}
use Rattle.tg_chain.proofs.Rising.{ranges_step}
use Rattle.tg_chain.proofs.units.+put_ranges.Goals as goal

pub returns-in_ok-put_ranges-in-len1-up : goal.returns-in_ok-put_ranges-in-len1-up
returns-in_ok-put_ranges-in-len1-up t c =
    let e = ap (λ xs. with_nums (concat xs) c.put_ranges.new.units) c.as_slice.ensures ∙ ap (with_nums (concat c.range-item.result.stripes)) c.in_ok-put_ranges-in-len1-up.ensures
    ∙ sym (ranges_step c.args.ranges.now c.range-item.result c.args.units.now c.in-len1-up.len_at_least c.range-item.is) in
    subst (λ ys. OnOk c.put_chains.result (c.put_chains.new.units ≡ ys)) e c.put_chains.ensures
