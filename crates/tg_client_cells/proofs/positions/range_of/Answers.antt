use Rattle.std.proofs.Common.{ap, sym, ◌∙◌}
use Rattle.tg_client_cells.specs.Words.{rises, from}
use Rattle.tg_client_cells.proofs.Finding.{within_from}
use Rattle.tg_client_cells.proofs.Rising.{rises_below}
use Rattle.tg_client_cells.proofs.positions.range_of.Goals as goal

pub those_from-requires : goal.those_from-requires
those_from-requires c = ap rises c.those_below.ensures ∙ rises_below c.args.high c.args.positions.now c.requires

pub returns : goal.returns
returns c = c.those_from.ensures ∙ ap (from c.args.low) c.those_below.ensures ∙ sym (within_from c.args.low c.args.high c.args.positions.now)
