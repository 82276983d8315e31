use Rattle.std.proofs.Common.{subst, ◌∙◌}
use Rattle.tg_audit.specs.Places.{IsRising}
use Rattle.tg_audit.proofs.tables.rising.Goals as goal

pub returns : goal.returns
returns g c e = subst IsRising (c.as_slice.ensures ∙ c.requires) (c.rises.ensures e)
