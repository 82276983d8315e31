use Rattle.std.proofs.Common.{sym, ◌∙◌}
use Rattle.tg_stream.proofs.Trims.{all-stay}
use Rattle.tg_stream.proofs.cells.drop_below.Goals as goal

pub returns-then-first-pos : goal.returns-then-first-pos
returns-then-first-pos c = sym (all-stay c.loop-first.map.entries c.in-Some.first.now c.args.pos c.if-first-pos.true c.in-Some.ensures.all_from) ∙ c.loop-first.invariant
