use Rattle.std.proofs.Common.{arith, ◌≤◌, length}
use Rattle.std.proofs.lemmas.Bool.Decides.{nat_tests}
use Rattle.tg_script.proofs.Spaces.{concat_written}
use Rattle.tg_script.proofs.nodes.concat.Goals as goal

pub returns : goal.returns
returns c =
    let le : length c.args.chains.now ≤ c.loop-chain.chain-index = grind (arith, nat_tests) in
    concat_written _ _ c.args.chains.now c.loop-chain.chain-index c.new-units.ensures le c.loop-chain.invariant
