use Rattle.std.proofs.Common.{ap, ◌∙◌}
use Rattle.tg_client_cells.specs.Words.{ByStream, with_positions}
use Rattle.tg_client_cells.proofs.Streams.{kept_by}
use Rattle.tg_client_cells.proofs.by_stream.StreamPositions.keep.Goals as goal

pub returns : goal.returns
returns c =
    c.in_ok-insert.ensures.entries
    ∙ kept_by c.self.inside.streams.entries c.taken.new.streams.entries c.taken.result c.in_ok-kept.kept c.args.oid c.args.positions.now c.self.invariant c.taken.ensures.rest c.taken.ensures.positions c.in_ok-kept.ensures
    ∙ ap (λ (xs : ByStream). with_positions xs c.args.oid c.args.positions.now) c.self.view_is
