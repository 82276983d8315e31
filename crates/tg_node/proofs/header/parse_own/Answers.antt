use Rattle.std.proofs.Common.{◌≡◌, ◌≤◌, Result, Err, sym, subst, rules}
use Rattle.tg_base.specs.Clusters.{Header}
use Rattle.tg_base.specs.declared.fault.TextFault.{TextFault}
use Rattle.tg_script.specs.Headers.{OnOutside}
use Rattle.tg_node.specs.Texts.{FirstOutside}
use Rattle.tg_node.proofs.Openings.{fault_first, header_declares}
use Rattle.tg_node.proofs.header.parse_own.Goals as goal

pub returns-in_err-cluster-clause-outside : goal.returns-in_err-cluster-clause-outside
returns-in_err-cluster-clause-outside c =
    let ls = c.args.lines.now in
    let n = c.args.id in
    let err : c.from_residual-in_err-cluster.result ≡ Err c.in_err-cluster.field-0.0 = search rules in
    let first = c.in_ok-first_declares.ensures.0 c.if-not-branch.false in
    subst (λ (r : Result Header TextFault). OnOutside r (λ k. (k ≤ 3) × FirstOutside ls n k)) (sym err)
    (fault_first {A = Header} (Err c.in_err-cluster.field-0.0) ls n c.requires first c.in_err-cluster.ensures.outside)

pub returns-clause-found : goal.returns-clause-found
returns-clause-found c =
    let found = c.in_ok-cluster.ensures.found in
    let first = c.in_ok-first_declares.ensures.0 c.if-not-branch.false in
    (found, header_declares c.args.lines.now c.args.id c.in_ok-cluster.cluster c.rules.ensures first found)
