use Rattle.std.proofs.Common.{◌++◌, length}
use Rattle.std.specs.Int.{w16, w64, to_be_bytes}
use Rattle.tg_codec.proofs.Many.{glue}
use Rattle.tg_wire.proofs.Splitting.{on_ok}
use Rattle.tg_wire.proofs.shapes.put_page.Goals as goal

pub returns : goal.returns
returns c =
    let first = to_be_bytes w64 c.args.first in
    let second = to_be_bytes w64 c.args.second in
    let text = to_be_bytes w16 (length c.args.page.now) ++ c.args.page.now in
    on_ok c.put_text.result (λ h. glue c.args.out.now first (second ++ text) _ _ c.in_ok-put_u64.ensures (glue _ second text _ _ c.in_ok-put_u64-2.ensures h)) c.put_text.ensures
