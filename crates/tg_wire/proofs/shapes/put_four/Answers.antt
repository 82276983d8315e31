use Rattle.std.proofs.Common.{◌++◌}
use Rattle.std.specs.Int.{w64, to_be_bytes}
use Rattle.tg_codec.proofs.Many.{glue}
use Rattle.tg_wire.proofs.Splitting.{on_ok}
use Rattle.tg_wire.proofs.shapes.put_four.Goals as goal

pub returns : goal.returns
returns c =
    let first = to_be_bytes w64 c.args.first in
    let second = to_be_bytes w64 c.args.second in
    let third = to_be_bytes w64 c.args.third in
    let fourth = to_be_bytes w64 c.args.fourth in
    on_ok c.put_u64-4.result (λ h. glue c.args.out.now first (second ++ (third ++ fourth)) _ _ c.in_ok-put_u64.ensures (glue _ second (third ++ fourth) _ _ c.in_ok-put_u64-2.ensures (glue _ third fourth _ _ c.in_ok-put_u64-3.ensures h))) c.put_u64-4.ensures
