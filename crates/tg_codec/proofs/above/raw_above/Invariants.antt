use Rattle.std.proofs.Common.{◌≡◌, ◌++◌, ◌-◌, length, take}
use Rattle.tg_codec.specs.Codec.{read_many}
use Rattle.tg_codec.specs.Bounds.{byte_above, after_byte}
use Rattle.tg_codec.proofs.Many.{with_front}
use Rattle.tg_codec.proofs.above.raw_above.Given as goal

abbrev pub invariant-loop-place : goal.invariant-loop-place
invariant-loop-place l = record {
  parts : l.bytes ≡ take l.place l.bytes ++ l.rest;
  len : length (take l.place l.bytes) ≡ l.place;
  so_far : with_front (take l.place l.bytes) (read_many byte_above after_byte (l.count - l.place) (l.low, l.count - l.place) l.rest) ≡ read_many byte_above after_byte l.count (l.bound, l.count) l.bytes;
}
