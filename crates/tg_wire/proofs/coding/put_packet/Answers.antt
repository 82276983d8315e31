use Rattle.std.proofs.Common.{◌++◌, ◌∷◌, []}
use Rattle.std.specs.Int.{w64, to_be_bytes}
use Rattle.tg_codec.proofs.Many.{glue}
use Rattle.tg_wire.specs.Messages.{message}
use Rattle.tg_wire.specs.Packets.{node, packet}
use Rattle.tg_wire.proofs.Splitting.{on_ok}
use Rattle.tg_wire.proofs.coding.put_packet.Goals as goal

pub returns : goal.returns
unfolding packet
returns c =
    let p = c.args.value.now in
    let first = 0x54 ∷ 0x50 ∷ 0x01 ∷ [] in
    let from = node.spell p.from in
    let to = node.spell p.to in
    let rid = to_be_bytes w64 p.rid in
    let body = message.spell p.msg in
    on_ok c.put_message.result
    (λ h.
    glue c.args.out.now first (from ++ (to ++ (rid ++ body))) _ _ c.in_ok-extend.ensures.ok
    (glue _ from (to ++ (rid ++ body)) _ _ c.in_ok-put_node.ensures (glue _ to (rid ++ body) _ _ c.in_ok-put_node-2.ensures (glue _ rid body _ _ c.in_ok-put_u64.ensures h))))
    c.put_message.ensures
