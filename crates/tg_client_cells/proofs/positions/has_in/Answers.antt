use Rattle.std.proofs.Common.{◌∙◌}
use Rattle.tg_client_cells.proofs.Rising.{places, has_by}
use Rattle.tg_client_cells.proofs.positions.has_in.Goals as goal

pub returns : goal.returns
returns c = c.is_ok.ensures.value ∙ has_by c.args.positions.now c.args.pos c.binary_search.result (places c.args.positions.now c.args.pos c.binary_search.result c.requires c.binary_search.ensures.position)
