use Rattle.std.proofs.Common.{◌≡◌, ◌++◌, None}
use Rattle.tg_codec.specs.Codec.{spell_many}
use Rattle.tg_set.specs.Sets.{number_format, after_number}
use Rattle.tg_set.proofs.set.put_numbers.Given as goal

abbrev pub invariant-loop-number : goal.invariant-loop-number
invariant-loop-number l = l.out ++ spell_many number_format after_number None l.number-iterator ≡ l.fn.out ++ spell_many number_format after_number None l.numbers.keys
