use Rattle.tg_unit.proofs.Same.{is-cell_eq}
use Rattle.tg_world_log.proofs.cells.is_equal.Goals as goal

pub returns : goal.returns
returns c = is-cell_eq c.is_same.result c.args.cell.now c.args.other.now c.is_same.ensures
