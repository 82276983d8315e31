use Rattle.std.specs.Int.{w64, to_be_bytes}
use Rattle.tg_codec.proofs.Many.{glue}
use Rattle.tg_wire.specs.Fields.{ballot}
use Rattle.tg_wire.proofs.Splitting.{on_ok}
use Rattle.tg_wire.proofs.shapes.put_round.Goals as goal

pub returns : goal.returns
returns c =
    let number = to_be_bytes w64 c.args.number in
    let last = ballot.spell c.args.value in
    on_ok c.put_ballot.result (λ h. glue c.args.out.now number last _ _ c.in_ok-put_u64.ensures h) c.put_ballot.ensures
