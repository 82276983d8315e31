use Rattle.std.proofs.Common.{◌≡◌, ℕ, ◌+◌, ◌-◌, ◌<◌, cond, length, drop, get_or, ap, ◌∙◌, arith}
use Rattle.std.specs.List.{list_any}
use Rattle.std.proofs.lemmas.List.{take_rest}
use Rattle.tg_entry.specs.declared.entry.WriteOp.{WriteOp}
use Rattle.tg_base.specs.Orders.{oid_eq}
use Rattle.tg_protocol.specs.Transactions.{tx_streams}
use Rattle.tg_tx.proofs.Orders.{count_at}
use Rattle.tg_tx.proofs.writes.stream_count.Goals as goal

pub loop-at-preserved : goal.loop-at-preserved
loop-at-preserved c =
    let at : ℕ = c.loop-at.at - 1 in
    let within : at < length c.args.writes.now = omega arith in
    let next : c.loop-at.at ≡ at + 1 = omega arith in
    let counted : c.streams_added-count.result ≡ cond (list_any (λ (v : WriteOp). oid_eq v.oid (get_or c.args.writes.now at c.index-writes-at.result).oid) (drop (at + 1) c.args.writes.now)) 0 1 =
    simp take_rest at c.streams_added-count.ensures.count in
    record {
      within = omega arith;
      most = omega arith;
      count =
          ap (λ (n : ℕ). c.loop-at.count + n) counted
          ∙ count_at c.args.writes.now c.index-writes-at.result at c.loop-at.count within (c.loop-at.invariant.count ∙ ap (λ (n : ℕ). length (tx_streams (drop n c.args.writes.now))) next);
    }
