use Rattle.std.proofs.Common.{◌++◌}
use Rattle.std.specs.VecDeque.Iter.{deque_iter_rest}
use Rattle.tg_codec.specs.Codec.{spell_many}
use Rattle.tg_list.specs.TextLists.{item, onward}
use Rattle.tg_list.proofs.Spelling.{goes_on, is_done}
use Rattle.tg_list.proofs.text_list.put_texts.Goals as goal

pub loop-text-preserved : goal.loop-text-preserved
loop-text-preserved c =
    goes_on c.loop-text.out c.put_word.new.out (deque_iter_rest c.loop-text.text-iterator) (deque_iter_rest c.next.new.self) c.in-Some.text.now (c.args.out.now ++ spell_many item onward tt c.args.texts.now.items) c.in_ok-put_word.ensures c.in-Some.ensures.steps c.loop-text.invariant

pub returns : goal.returns
returns c =
    is_done c.loop-text.out (deque_iter_rest c.loop-text.text-iterator) (c.args.out.now ++ spell_many item onward tt c.args.texts.now.items) c.in-None.ensures.steps.0 c.loop-text.invariant
