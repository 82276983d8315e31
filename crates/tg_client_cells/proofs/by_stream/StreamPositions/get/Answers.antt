use Rattle.std.proofs.Common.{ℕ, List, [], Option, ap, ◌∙◌}
use Rattle.std.specs.Prelude.{unwrap_or}
use Rattle.tg_client_cells.specs.Words.{ByStream, positions_in}
use Rattle.tg_client_cells.proofs.Streams.{found}
use Rattle.tg_client_cells.proofs.by_stream.StreamPositions.get.Goals as goal

pub returns : goal.returns
returns c =
    ap (λ (o : Option (List ℕ)). unwrap_or o []) c.get.ensures.value
    ∙ found c.self.inside.streams.entries c.args.oid
    ∙ ap (λ (xs : ByStream). positions_in xs c.args.oid) c.self.view_is
