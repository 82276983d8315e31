use Rattle.std.proofs.Common.{◌++◌, [], sym, ◌∙◌}
use Rattle.std.specs.Map.Iter.{deref_pair}
use Rattle.std.proofs.lemmas.List.{append-nil}
use Rattle.std.proofs.lemmas.Map.Iter.{rest_more, rest_all}
use Rattle.tg_codec.specs.Codec.{spell_many}
use Rattle.tg_map.specs.Maps.{pair, after_pair}
use Rattle.tg_map.proofs.Loops.{put_on, put_all}
use Rattle.tg_map.proofs.map.put_pairs.Goals as goal

pub loop-key-preserved : goal.loop-key-preserved
loop-key-preserved c =
    let front = rest_more deref_pair c.loop-key.key-iterator c.next.new.self c.next.result (c.in-Some.key, c.in-Some.value) c.in-Some.is c.next.ensures.steps in
    put_on c.loop-key.out c.put_pair.new.out c.in-Some.key.now c.in-Some.value.now c.loop-key.key-iterator c.next.new.self (c.args.out.now ++ spell_many pair after_pair [] c.args.pairs.now.entries) front c.in_ok-put_pair.ensures c.loop-key.invariant

pub returns : goal.returns
returns c =
    let none = rest_all deref_pair c.loop-key.key-iterator c.next.new.self c.next.result c.in-None.is c.next.ensures.steps in
    sym (append-nil c.loop-key.out) ∙ put_all c.loop-key.out c.loop-key.key-iterator (c.args.out.now ++ spell_many pair after_pair [] c.args.pairs.now.entries) none c.loop-key.invariant
