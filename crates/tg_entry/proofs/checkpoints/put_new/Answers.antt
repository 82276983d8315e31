use Rattle.std.proofs.Common.{◌++◌, length}
use Rattle.std.specs.Int.{w16, w32, w64, to_be_bytes}
use Rattle.tg_codec.proofs.Many.{glue}
use Rattle.tg_entry.specs.Checkpoints.{keys, new_fields}
use Rattle.tg_entry.proofs.checkpoints.put_new.Goals as goal

pub returns : goal.returns
unfolding new_fields
returns c = λ oids.
    let number = to_be_bytes w32 c.args.oid.0 in
    let upto = to_be_bytes w64 c.args.upto in
    let version = to_be_bytes w64 c.args.versions.0 in
    let whole = to_be_bytes w64 c.args.versions.1 in
    let some = (keys c.args.versions.1 c.args.versions.0).spell c.args.keys.now in
    let state = to_be_bytes w16 (length c.args.state.now) ++ c.args.state.now in
    glue c.args.out.now number (upto ++ (version ++ (whole ++ (some ++ state)))) _ _ c.in_ok-put_u32.ensures
    (glue _ upto (version ++ (whole ++ (some ++ state))) _ _ c.in_ok-put_u64.ensures
    (glue _ version (whole ++ (some ++ state)) _ _ c.in_ok-put_u64-2.ensures
    (glue _ whole (some ++ state) _ _ c.in_ok-put_u64-3.ensures (glue _ some state _ _ c.in_ok-put_keys.ensures c.in_ok-put_text.ensures))))
