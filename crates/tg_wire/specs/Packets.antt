-- Packets: who sends, to whom, the number of the request, and the message.
use Rattle.std.specs.Prelude.{ℕ, zero, suc, [], ◌∷◌}
use Rattle.tg_base.specs.Orders.{role_number}
use Rattle.tg_base.specs.declared.ids.Role.{Role}
use Rattle.tg_base.specs.declared.ids.Role.TheVariants.{Unit as UnitRole, Layout as LayoutRole, Seqr as SeqrRole, Client as ClientRole}
use Rattle.tg_base.specs.declared.ids.NodeId.{NodeId}
use Rattle.tg_base.specs.declared.packet.Packet.{Packet}
use Rattle.tg_codec.specs.Codec.{Codec, u8, u16, u64, fixed, dep, via}
use Rattle.tg_codec.specs.Streams.{any}
use Rattle.tg_wire.specs.Messages.{message}

-- the role that a number stands for: 0 a unit, 1 a layout server, 2 a sequencer, 3 a client
abbrev pub role_of : ℕ → Role
role_of zero = UnitRole
role_of (suc zero) = LayoutRole
role_of (suc (suc zero)) = SeqrRole
role_of (suc (suc (suc n))) = ClientRole

abbrev pub role : Codec Role
role = via role_of role_number (u8 ((0, 3) ∷ []))

abbrev pub node : Codec NodeId
node = via (λ p. record { role = p.0; num = p.1 }) (λ n. (n.role, n.num)) (dep role (λ _. u16 any))

-- the bytes 54 50 01, from, to, the request's number, and the message
unfoldable pub packet : Codec Packet
packet =
    via (λ p. record { from = p.1.0; to = p.1.1.0; rid = p.1.1.1.0; msg = p.1.1.1.1 }) (λ p. (tt, (p.from, (p.to, (p.rid, p.msg)))))
    (dep (fixed (0x54 ∷ 0x50 ∷ 0x01 ∷ [])) (λ _. dep node (λ _. dep node (λ _. dep (u64 any) (λ _. message)))))
