use Rattle.std.proofs.Common.{◌≡◌, ◌≤◌, ◌+◌, ◌*◌, drop}
use Rattle.std.specs.Prelude.{map}
use Rattle.tg_protocol.specs.Entries.{sum_of, read_size}
use Rattle.tg_tx.proofs.sizes.reads_size.Given as goal

abbrev pub invariant-loop-read : goal.invariant-loop-read
invariant-loop-read l = record {
  most : l.size ≤ 4111 * l.read-index;
  so_far : l.size + sum_of (map read_size (drop l.read-index l.reads)) ≡ sum_of (map read_size l.reads);
}
