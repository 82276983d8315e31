use Rattle.std.proofs.Common.{◌≡◌, ◌≤◌, length, drop}
use Rattle.tg_client_cells.specs.Words.{positions_of, within}
use Rattle.tg_client_cells.proofs.by_stream.StreamPositions.gather.Given as goal

abbrev pub invariant-loop-at : goal.invariant-loop-at
invariant-loop-at l = record {
  bound : l.at ≤ length l.streams;
  gathered : l.positions ≡ within l.low l.high (positions_of l.self (drop l.at l.streams));
}
