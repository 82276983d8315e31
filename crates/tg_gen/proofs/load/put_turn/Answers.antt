use Rattle.std.proofs.Common.{◌%◌}
use Rattle.tg_gen.specs.Loads.{middle_lines, round_lines}
use Rattle.tg_gen.proofs.Texts.{on_two}
use Rattle.tg_gen.proofs.load.put_turn.Goals as goal

pub returns : goal.returns
returns c =
    on_two c.put_round.result c.args.out.now c.put_middle.new.out c.put_round.new.out (middle_lines c.args.count c.args.i) (round_lines (c.args.i % 3) c.args.round)
    c.in_ok-put_middle.ensures c.put_round.ensures
