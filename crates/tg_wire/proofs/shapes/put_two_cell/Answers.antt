use Rattle.std.proofs.Common.{◌++◌}
use Rattle.std.specs.Int.{w64, to_be_bytes}
use Rattle.tg_codec.proofs.Many.{glue}
use Rattle.tg_wire.specs.Fields.{cell}
use Rattle.tg_wire.proofs.Splitting.{on_ok}
use Rattle.tg_wire.proofs.shapes.put_two_cell.Goals as goal

pub returns : goal.returns
returns c =
    let first = to_be_bytes w64 c.args.first in
    let second = to_be_bytes w64 c.args.second in
    let last = cell.spell c.args.value.now in
    on_ok c.put_cell.result (λ h. glue c.args.out.now first (second ++ last) _ _ c.in_ok-put_u64.ensures (glue _ second last _ _ c.in_ok-put_u64-2.ensures h)) c.put_cell.ensures
