use Rattle.std.proofs.Common.{rules, arith}
use Rattle.tg_tree.specs.PathLaws.{was_path}
use Rattle.tg_tree.proofs.path.path_in.Goals as goal

pub unwrap-text-requires : goal.unwrap-text-requires
unwrap-text-requires c =
    let w = was_path c.args.bytes.now c.in_ok-len.len c.in_ok-len.rest.now c.in_ok-text.text.now c.in_ok-text.rest.now (λ i. omega (arith, c.type_inv.bytes i)) c.in_ok-len.ensures.exact c.in_ok-text.ensures.exact in
    let u = w.utf8 in
    search (rules, u)

pub invariant_of-result : goal.invariant_of-result
invariant_of-result c =
    let w = was_path c.args.bytes.now c.in_ok-len.len c.in_ok-len.rest.now c.in_ok-text.text.now c.in_ok-text.rest.now (λ i. omega (arith, c.type_inv.bytes i)) c.in_ok-len.ensures.exact c.in_ok-text.ensures.exact in
    let u = w.fits in
    search (rules, u)
