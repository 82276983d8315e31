use Rattle.std.proofs.Common.{◌≡◌, ◌++◌}
use Rattle.std.specs.VecDeque.Iter.{deque_iter_rest}
use Rattle.tg_codec.specs.Codec.{spell_many}
use Rattle.tg_list.specs.TextLists.{item, onward}
use Rattle.tg_list.proofs.text_list.put_texts.Given as goal

-- what is written and the spellings to come are the whole
abbrev pub invariant-loop-text : goal.invariant-loop-text
invariant-loop-text l = l.out ++ spell_many item onward tt (deque_iter_rest l.text-iterator) ≡ l.initial.out ++ spell_many item onward tt l.texts.items
