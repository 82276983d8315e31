use Rattle.std.proofs.Common.{◌≡◌, ◌++◌, ◌-◌, length, take}
use Rattle.tg_codec.specs.Codec.{u8, read_many}
use Rattle.tg_codec.specs.Bounds.{same_ranges}
use Rattle.tg_codec.proofs.Many.{with_front}
use Rattle.tg_codec.proofs.above.raw_in.Given as goal

abbrev pub invariant-loop : goal.invariant-loop
invariant-loop l = record {
  parts : l.bytes ≡ take l.counter l.bytes ++ l.rest;
  len : length (take l.counter l.bytes) ≡ l.counter;
  so_far : with_front (take l.counter l.bytes) (read_many u8 same_ranges (l.count - l.counter) l.ranges l.rest) ≡ read_many u8 same_ranges l.count l.ranges l.bytes;
}
