use Rattle.std.proofs.Common.{◌≡◌, ◌++◌, []}
use Rattle.tg_codec.specs.Codec.{spell_many}
use Rattle.tg_map.specs.Maps.{pair, after_pair}
use Rattle.tg_map.proofs.map.put_pairs.Given as goal

abbrev pub invariant-loop-key : goal.invariant-loop-key
invariant-loop-key l = l.out ++ spell_many pair after_pair [] l.key-iterator ≡ l.fn.out ++ spell_many pair after_pair [] l.pairs.entries
