use Rattle.tg_world_log.proofs.Below.{archived_popped}
use Rattle.tg_world_log.proofs.archive.archive_cells.Goals as goal

pub loop-pos-preserved : goal.loop-pos-preserved
loop-pos-preserved c =
    archived_popped c.loop-pos.left.items c.pop.new.self.items (c.in-Some.pos, c.in-Some.cell) c.args.low c.loop-pos.archive.entries c.archive_cell.new.archive.entries _ c.in-Some.ensures.items
    c.in_ok-archive_cell.ensures c.loop-pos.invariant
