use Rattle.tg_base.proofs.Exact.{exact-layouts, told}
use Rattle.tg_base.proofs.layout.Projection.is_same.Goals as goal

pub returns : goal.returns
returns c = told exact-layouts _ _ _ c.eq.ensures
