use Rattle.std.proofs.Common.{◌≡◌, ◌<◌, ◌+◌, ◌-◌, ◌^◌, length, map, drop}
use Rattle.std.specs.Prelude.{min}
use Rattle.std.specs.List.{list_all}
use Rattle.tg_protocol.specs.Entries.{sum_of, key_size}
use Rattle.tg_ckpt.specs.Saving.{key_of_bytes}
use Rattle.tg_ckpt.proofs.saving.checkpoint_size.Given as goal

abbrev pub invariant-loop-key : goal.invariant-loop-key
invariant-loop-key l = record {
  size : min (l.size + sum_of (map key_size (drop l.key-index l.keys))) (2 ^ 64 - 1) ≡ min (79 + length l.state + sum_of (map key_size l.keys)) (2 ^ 64 - 1);
  small : l.size < 2 ^ 64;
  bytes : list_all key_of_bytes (drop l.key-index l.keys) ≡ list_all key_of_bytes l.keys;
}
