use Rattle.std.proofs.Common.{◌≡◌, ◌∷◌, [], List, ℕ, length, ap, arith}
use Rattle.std.proofs.lemmas.List.{length-append}
use Rattle.tg_wire.specs.Fields.{ballot, projection_of, projection}
use Rattle.tg_wire.proofs.Parts.{spelled_alike}
use Rattle.tg_wire.proofs.layouts.size_proposal.Goals as goal

pub returns-clause-len : goal.returns-clause-len
returns-clause-len c =
    let own = projection_of ((c.args.epoch, c.args.epoch) ∷ []) in
    let len = c.size_projection.ensures.len in
    let same : length (projection.spell c.args.layout.now) ≡ length (own.spell c.args.layout.now) = ap (λ (t : List ℕ). length t) (spelled_alike ((c.args.epoch, c.args.epoch) ∷ []) c.args.layout.now) in
    omega (arith, len, same, length-append (ballot.spell c.args.value) (own.spell c.args.layout.now))
