use Rattle.std.proofs.Common.{◌++◌, None, sym, ◌∙◌}
use Rattle.std.specs.Map.Iter.{deref}
use Rattle.std.proofs.lemmas.List.{append-nil}
use Rattle.std.proofs.lemmas.Map.Iter.{rest_more, rest_all}
use Rattle.tg_codec.specs.Codec.{spell_many}
use Rattle.tg_set.specs.Sets.{number_format, after_number}
use Rattle.tg_set.proofs.Loops.{put_on, put_all}
use Rattle.tg_set.proofs.set.put_numbers.Goals as goal

pub loop-number-preserved : goal.loop-number-preserved
loop-number-preserved c =
    let front = rest_more deref c.loop-number.number-iterator c.next.new.self c.next.result c.in-Some.number c.in-Some.is c.next.ensures.steps in
    put_on c.loop-number.out c.put_u64.new.out c.in-Some.number.now c.loop-number.number-iterator c.next.new.self (c.args.out.now ++ spell_many number_format after_number None c.args.numbers.now.keys) front c.in_ok-put_u64.ensures c.loop-number.invariant

pub returns : goal.returns
returns c =
    let none = rest_all deref c.loop-number.number-iterator c.next.new.self c.next.result c.in-None.is c.next.ensures.steps in
    sym (append-nil c.loop-number.out) ∙ put_all c.loop-number.out c.loop-number.number-iterator (c.args.out.now ++ spell_many number_format after_number None c.args.numbers.now.keys) none c.loop-number.invariant
