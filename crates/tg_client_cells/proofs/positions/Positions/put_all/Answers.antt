use Rattle.std.proofs.Common.{ap, ◌∙◌}
use Rattle.tg_client_cells.specs.Words.{rises}
use Rattle.tg_client_cells.proofs.Unions.{rises_union}
use Rattle.tg_client_cells.proofs.positions.Positions.put_all.Goals as goal

pub invariant_of-result : goal.invariant_of-result
invariant_of-result c = ap rises c.in_ok-put_listed.ensures ∙ rises_union c.args.positions.now c.self.inside.list.items c.self.invariant
