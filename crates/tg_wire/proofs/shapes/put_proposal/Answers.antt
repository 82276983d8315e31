use Rattle.std.proofs.Common.{◌++◌, ◌∷◌, [], ◌∙◌, List, ℕ, ap}
use Rattle.std.specs.Int.{w64, to_be_bytes}
use Rattle.tg_codec.proofs.Many.{glue}
use Rattle.tg_wire.specs.Fields.{ballot, projection}
use Rattle.tg_wire.proofs.Parts.{spelled_alike}
use Rattle.tg_wire.proofs.Splitting.{on_ok}
use Rattle.tg_wire.proofs.shapes.put_proposal.Goals as goal

pub returns : goal.returns
returns c =
    let number = to_be_bytes w64 c.args.epoch in
    let round = ballot.spell c.args.value in
    let last = projection.spell c.args.layout.now in
    let same = spelled_alike ((c.args.epoch, c.args.epoch) ∷ []) c.args.layout.now in
    on_ok c.put_projection.result (λ h. glue c.args.out.now number (round ++ last) _ _ c.in_ok-put_u64.ensures (glue _ round last _ _ c.in_ok-put_ballot.ensures h) ∙ ap (λ (t : List ℕ). c.args.out.now ++ (number ++ (round ++ t))) same) c.put_projection.ensures
