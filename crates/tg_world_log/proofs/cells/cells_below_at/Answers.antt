use Rattle.tg_world_log.proofs.Below.{below_more}
use Rattle.tg_world_log.proofs.cells.cells_below_at.Goals as goal

pub loop-pos-preserved : goal.loop-pos-preserved
loop-pos-preserved c =
    below_more c.args.layout.now c.args.units.now c.args.archive.now.entries c.args.low c.loop-pos.cells.items c.put_below.new.cells.items c.in-Some.pos.now c.loop-pos.pos-iterator c.next.new.self _ c.in_ok-put_below.ensures
    c.in-Some.ensures.steps c.loop-pos.invariant
