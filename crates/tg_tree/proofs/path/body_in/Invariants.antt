use Rattle.std.proofs.Common.{◌≡◌, ◌++◌, ◌-◌, length, take}
use Rattle.tg_codec.specs.Codec.{read_many}
use Rattle.tg_tree.specs.Paths.{path_byte, after_byte}
use Rattle.tg_codec.proofs.Many.{with_front}
use Rattle.tg_tree.proofs.path.body_in.Given as goal

abbrev pub invariant-loop-place : goal.invariant-loop-place
invariant-loop-place l = record {
  parts : l.bytes ≡ take l.place l.bytes ++ l.rest;
  len : length (take l.place l.bytes) ≡ l.place;
  so_far : with_front (take l.place l.bytes) (read_many path_byte after_byte (l.count - l.place) (l.count - l.place, l.before) l.rest) ≡ read_many path_byte after_byte l.count (l.count, 0) l.bytes;
}
