use Rattle.std.proofs.Common.{◌∙◌}
use Rattle.tg_audit.proofs.tables.bounds_of.Goals as goal

pub bounds-requires : goal.bounds-requires
bounds-requires g c = c.as_slice.ensures ∙ c.in_ok-points.ensures
