use Rattle.std.proofs.Common.{◌≡◌, ◌-◌, [], length}
use Rattle.std.specs.Map.{keys_of}
use Rattle.tg_codec.specs.Codec.{read_many}
use Rattle.tg_codec.proofs.Many.{with_front}
use Rattle.tg_map.specs.Maps.{pair, after_pair}
use Rattle.tg_map.proofs.map.pairs_in.Given as goal

abbrev pub invariant-loop : goal.invariant-loop
invariant-loop l = record {
  so_far : with_front l.map (read_many pair after_pair (l.count - l.counter) (keys_of l.map) l.rest) ≡ read_many pair after_pair l.count [] l.bytes;
  len : length l.map ≡ l.counter;
}
