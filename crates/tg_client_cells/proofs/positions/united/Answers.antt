use Rattle.std.proofs.Common.{ℕ, List, ◌++◌, ap, ◌∙◌}
use Rattle.tg_protocol.specs.Words.{with_nums}
use Rattle.tg_client_cells.proofs.positions.united.Goals as goal

pub returns : goal.returns
returns c =
    c.in_ok-merge.ensures
    ∙ ap (λ (l : List ℕ). l ++ with_nums c.args.others.now c.as_slice.result.now) c.new-both.ensures.items
    ∙ ap (with_nums c.args.others.now) c.as_slice.ensures.value
