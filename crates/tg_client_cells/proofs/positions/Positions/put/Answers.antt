use Rattle.std.proofs.Common.{ap, ◌∙◌}
use Rattle.tg_client_cells.specs.Words.{rises}
use Rattle.tg_client_cells.proofs.Unions.{rises_put}
use Rattle.tg_client_cells.proofs.positions.Positions.put.Goals as goal

pub invariant_of-result : goal.invariant_of-result
invariant_of-result c = ap rises c.in_ok-put_in.ensures ∙ rises_put c.args.pos c.self.inside.list.items c.self.invariant
