use Rattle.std.proofs.Common.{Some, ap, sym, ◌∙◌}
use Rattle.std.specs.Prelude.{option_copied}
use Rattle.tg_base.specs.declared.cell.Cell.{Cell}
use Rattle.tg_protocol.specs.Words.{cell_at}
use Rattle.tg_client_cells.specs.Known.{Knowledge}
use Rattle.tg_client_cells.proofs.known.Known.cell.Goals as goal

pub returns-in-Some : goal.returns-in-Some
returns-in-Some c =
    ap (λ (x : Cell). Some x) c.cell.ensures
    ∙ sym (ap option_copied c.in-Some.is)
    ∙ c.get.ensures.value
    ∙ ap (λ (k : Knowledge). cell_at k.cells c.args.pos) c.self.view_is
