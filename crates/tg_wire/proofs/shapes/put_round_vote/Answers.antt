use Rattle.std.proofs.Common.{◌++◌}
use Rattle.std.specs.Int.{w64, to_be_bytes}
use Rattle.tg_codec.proofs.Many.{glue}
use Rattle.tg_wire.specs.Fields.{ballot, vote}
use Rattle.tg_wire.proofs.Splitting.{on_ok}
use Rattle.tg_wire.proofs.shapes.put_round_vote.Goals as goal

pub returns : goal.returns
returns c =
    let number = to_be_bytes w64 c.args.number in
    let round = ballot.spell c.args.value in
    let last = vote.spell c.args.accepted.now in
    on_ok c.put_vote.result (λ h. glue c.args.out.now number (round ++ last) _ _ c.in_ok-put_u64.ensures (glue _ round last _ _ c.in_ok-put_ballot.ensures h)) c.put_vote.ensures
