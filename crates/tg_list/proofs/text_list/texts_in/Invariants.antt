use Rattle.std.proofs.Common.{◌≡◌, ◌-◌, length}
use Rattle.tg_codec.proofs.Many.{with_front}
use Rattle.tg_codec.specs.Codec.{read_many}
use Rattle.tg_list.specs.TextLists.{item, onward}
use Rattle.tg_list.proofs.text_list.texts_in.Given as goal

-- the texts so far, and what is read of the rest, are what is read of the whole
abbrev pub invariant-loop : goal.invariant-loop
invariant-loop l = record {
  so_far : with_front l.texts.items (read_many item onward (l.count - l.counter) tt l.rest) ≡ read_many item onward l.count tt l.bytes;
  len : length l.texts.items ≡ l.counter;
}
