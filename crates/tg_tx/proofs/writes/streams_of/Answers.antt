use Rattle.std.proofs.Common.{◌≡◌, ℕ, ◌+◌, ◌-◌, ◌<◌, length, drop, get_or, List, ap, ◌∙◌, arith}
use Rattle.std.specs.BTreeSet.{insert_key}
use Rattle.tg_base.specs.Orders.{oid_cmp}
use Rattle.tg_base.specs.declared.ids.Oid.{Oid}
use Rattle.tg_protocol.specs.Transactions.{tx_streams}
use Rattle.tg_tx.proofs.Orders.{streams_at}
use Rattle.tg_tx.proofs.writes.streams_of.Goals as goal

pub loop-at-preserved : goal.loop-at-preserved
loop-at-preserved c =
    let at : ℕ = c.loop-at.at - 1 in
    let within : at < length c.args.writes.now = omega arith in
    let next : c.loop-at.at ≡ at + 1 = omega arith in
    record {
      within = omega arith;
      keys =
          c.in_ok-insert.ensures.keys
          ∙ ap (λ (os : List Oid). insert_key oid_cmp os (get_or c.args.writes.now at c.index-writes-at.result).oid) (c.loop-at.invariant.keys ∙ ap (λ (n : ℕ). tx_streams (drop n c.args.writes.now)) next)
          ∙ streams_at c.args.writes.now c.index-writes-at.result at within;
    }
