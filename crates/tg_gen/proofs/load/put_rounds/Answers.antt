use Rattle.std.proofs.Common.{◌≤◌, ◌∙◌, arith}
use Rattle.tg_gen.proofs.Texts.{numbers_first, numbers_next, rounds_none, rounds_next, rounds_all}
use Rattle.tg_gen.proofs.load.put_rounds.Goals as goal

pub loop-i-init : goal.loop-i-init
loop-i-init c = record {
  numbers = c.new-numbers.ensures ∙ numbers_first c.args.start;
  so_far = rounds_none c.args.start c.args.count c.args.out.now;
}

pub loop-i-preserved : goal.loop-i-preserved
loop-i-preserved c = record {
  numbers = numbers_next c.args.start c.loop-i.i c.loop-i.numbers c.draw-round.new.numbers c.loop-i.invariant.numbers c.draw-round.ensures.kept;
  so_far = rounds_next c.args.start c.args.count c.loop-i.i c.loop-i.numbers c.draw-round.result c.args.out.now c.loop-i.out c.put_turn.new.out
      c.loop-i.invariant.numbers c.draw-round.ensures.round c.loop-i.invariant.so_far c.in_ok-put_turn.ensures;
}

pub returns : goal.returns
returns c =
    let most : c.loop-i.i ≤ c.args.count = omega arith in
    rounds_all c.args.start c.args.count c.loop-i.i c.args.out.now c.loop-i.out most c.loop-i-test.false c.loop-i.invariant.so_far
