use Rattle.std.proofs.Common.{Some, ap, sym, ◌∙◌}
use Rattle.std.specs.Prelude.{option_copied}
use Rattle.tg_base.specs.declared.cell.Cell.{Cell}
use Rattle.tg_stream.proofs.cells.Cells.get.Goals as goal

pub returns-in-Some : goal.returns-in-Some
returns-in-Some c = ap (λ (x : Cell). Some x) c.cell.ensures ∙ sym (ap option_copied c.in-Some.is) ∙ c.page.ensures
