use Rattle.std.proofs.Common.{◌≡◌, ◌-◌, None, length}
use Rattle.tg_codec.specs.Codec.{read_many}
use Rattle.tg_codec.proofs.Many.{with_front}
use Rattle.tg_set.specs.Sets.{number_format, after_number}
use Rattle.tg_set.proofs.Loops.{EndsAt}
use Rattle.tg_set.proofs.set.numbers_in.Given as goal

abbrev pub invariant-loop : goal.invariant-loop
invariant-loop l = record {
  so_far : with_front l.set (read_many number_format after_number (l.count - l.counter) l.last l.rest) ≡ read_many number_format after_number l.count None l.bytes;
  len : length l.set ≡ l.counter;
  ends : EndsAt l.set l.last;
}
