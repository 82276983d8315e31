use Rattle.std.proofs.Common.{ℕ, List, ap, sym, ◌∙◌, arith}
use Rattle.tg_client_cells.specs.Pruned.{without}
use Rattle.tg_client_cells.proofs.Giving.{dropped, none_dropped}
use Rattle.tg_client_cells.proofs.pages.drop_others.Goals as goal

pub returns-then-high-low : goal.returns-then-high-low
returns-then-high-low c = sym (none_dropped c.args.own.now c.args.low c.args.high c.args.cells.now.entries (omega (arith, c.if-high-low.true)))

pub returns : goal.returns
returns c =
    c.drop_at.ensures
    ∙ ap (λ (l : List ℕ). without l c.args.cells.now.entries) (c.as_slice.ensures ∙ c.in_ok-others.ensures.others)
    ∙ dropped c.args.own.now c.args.low c.args.high c.args.cells.now.entries c.others_in.ensures.ordered
