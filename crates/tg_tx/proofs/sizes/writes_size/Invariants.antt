use Rattle.std.proofs.Common.{◌≡◌, ◌≤◌, ◌+◌, ◌*◌, drop}
use Rattle.std.specs.Prelude.{map}
use Rattle.tg_protocol.specs.Entries.{sum_of, write_size}
use Rattle.tg_tx.proofs.sizes.writes_size.Given as goal

abbrev pub invariant-loop-write : goal.invariant-loop-write
invariant-loop-write l = record {
  most : l.size ≤ 4111 * l.write-index;
  so_far : l.size + sum_of (map write_size (drop l.write-index l.writes)) ≡ sum_of (map write_size l.writes);
}
