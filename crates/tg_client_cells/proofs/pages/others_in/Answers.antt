use Rattle.std.proofs.Common.{ℕ, List, ◌++◌, ap, ◌∙◌}
use Rattle.tg_base.specs.declared.cell.Cell.{Cell}
use Rattle.tg_client_cells.specs.Pruned.{others_in}
use Rattle.tg_client_cells.proofs.Ranges.{cells_is}
use Rattle.tg_client_cells.proofs.pages.others_in.Goals as goal

pub loop-pos-init : goal.loop-pos-init
loop-pos-init c =
    ap (λ (l : List ℕ). l ++ others_in c.args.own.now c.into_iter-pos-iterator.result) c.new-others.ensures
    ∙ ap (λ (l : List (ℕ × Cell)). others_in c.args.own.now l)
    (c.into_iter-pos-iterator.ensures.into_iter_gives ∙ c.range-pos-items.ensures.between tt ∙ cells_is c.args.low c.args.high c.args.cells.now.entries)
