use Rattle.std.specs.Int.{w64, to_be_bytes}
use Rattle.tg_codec.proofs.Many.{glue}
use Rattle.tg_wire.proofs.Splitting.{on_ok}
use Rattle.tg_wire.proofs.shapes.put_two.Goals as goal

pub returns : goal.returns
returns c =
    let first = to_be_bytes w64 c.args.first in
    let second = to_be_bytes w64 c.args.second in
    on_ok c.put_u64-2.result (λ h. glue c.args.out.now first second _ _ c.in_ok-put_u64.ensures h) c.put_u64-2.ensures
