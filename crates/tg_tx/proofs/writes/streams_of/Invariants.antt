use Rattle.std.proofs.Common.{◌≡◌, ◌≤◌, length, drop}
use Rattle.tg_protocol.specs.Transactions.{tx_streams}
use Rattle.tg_tx.proofs.writes.streams_of.Given as goal

abbrev pub invariant-loop-at : goal.invariant-loop-at
invariant-loop-at l = record {
  within : l.at ≤ length l.writes;
  keys : l.oids.keys ≡ tx_streams (drop l.at l.writes);
}
