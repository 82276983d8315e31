use Rattle.tg_world_log.proofs.Below.{cells_more}
use Rattle.tg_world_log.proofs.cells.cells_at.Goals as goal

pub loop-pos-preserved : goal.loop-pos-preserved
loop-pos-preserved c =
    cells_more c.args.layout.now c.args.units.now c.args.archive.now.entries c.loop-pos.cells c.put_cell.new.cells c.in-Some.pos.now c.loop-pos.pos-iterator c.next.new.self _ c.in_ok-put_cell.ensures
    c.in-Some.ensures.steps c.loop-pos.invariant
