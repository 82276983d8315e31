use Rattle.std.proofs.Common.{◌+◌, sym, ◌∙◌}
use Rattle.tg_tx.proofs.Orders.{added_last}
use Rattle.tg_tx.proofs.writes.streams_with.Goals as goal

pub returns-clause-count : goal.returns-clause-count
returns-clause-count c = λ op. (λ i. c.stream_count.ensures.count i + c.streams_added.ensures.count i) ∙ sym (added_last c.args.writes.now (record { oid = c.args.oid; op = op }))
