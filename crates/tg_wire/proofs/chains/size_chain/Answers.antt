use Rattle.std.proofs.Common.{◌≡◌, ℕ, List, [], length, refl, ap, arith}
use Rattle.tg_codec.proofs.Many.{same_len}
use Rattle.tg_wire.specs.Fields.{chain_unit, after_unit, chain}
use Rattle.tg_wire.proofs.chains.size_chain.Goals as goal

pub returns-clause-len : goal.returns-clause-len
unfolding chain
returns-clause-len c =
    let same : length c.as_slice.result.now ≡ length c.args.value.now = ap (λ (us : List ℕ). length us) c.as_slice.ensures.units in
    let units = same_len chain_unit after_unit 2 (λ used u. refl) [] c.args.value.now in
    omega (arith, same, units)
