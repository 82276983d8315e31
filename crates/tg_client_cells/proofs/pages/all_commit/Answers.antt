use Rattle.std.proofs.Common.{ℕ, List, ap, sym, ◌∙◌, arith}
use Rattle.std.specs.List.{list_all}
use Rattle.tg_base.specs.declared.cell.Cell.{Cell}
use Rattle.tg_client_cells.specs.Known.{commits_if_own}
use Rattle.tg_client_cells.proofs.Ranges.{cells_is, cells_none}
use Rattle.tg_client_cells.proofs.pages.all_commit.Goals as goal

pub returns-then-high-low : goal.returns-then-high-low
returns-then-high-low c =
    sym (ap (λ (l : List (ℕ × Cell)). list_all (commits_if_own c.args.own.now) l) (cells_none c.args.low c.args.high c.args.cells.now.entries (omega (arith, c.if-high-low.true))))

pub loop-pos-init : goal.loop-pos-init
loop-pos-init c =
    ap (λ (l : List (ℕ × Cell)). list_all (commits_if_own c.args.own.now) l)
    (c.into_iter-pos-iterator.ensures.into_iter_gives ∙ c.range-pos-items.ensures.between tt ∙ cells_is c.args.low c.args.high c.args.cells.now.entries)
