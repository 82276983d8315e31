use Rattle.std.proofs.Common.{◌≡◌, ◌++◌}
use Rattle.std.specs.VecDeque.Iter.{deque_iter_rest}
use Rattle.tg_list.proofs.text_list.copy_texts.Given as goal

-- the copies and the texts to come are all texts
abbrev pub invariant-loop-text : goal.invariant-loop-text
invariant-loop-text l = l.copies.items ++ deque_iter_rest l.text-iterator ≡ l.texts.items
