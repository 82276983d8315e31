-- The format of packets keeps the law.
use Rattle.std.proofs.Common.{◌≡◌, ℕ, zero, suc, true, [], ◌∷◌, refl, arith}
use Rattle.tg_base.specs.Orders.{role_number}
use Rattle.tg_base.specs.declared.ids.Role.{Role}
use Rattle.tg_base.specs.declared.ids.Role.TheVariants.{Unit as UnitRole, Layout as LayoutRole, Seqr as SeqrRole, Client as ClientRole}
use Rattle.tg_codec.specs.Codec.{u8}
use Rattle.tg_codec.proofs.Laws.{IsCodec, and-left, fixed_law, dep_law, via_law}
use Rattle.tg_codec.proofs.Widths.{u8_law, u16_law, u64_law}
use Rattle.tg_codec.proofs.Shapes.{met_within}
use Rattle.tg_wire.specs.Packets.{role_of, role, node, packet}
use Rattle.tg_wire.proofs.Messages.{message_law}

last_role : (k : ℕ) → (u8 ((0, 3) ∷ [])).fits (suc (suc (suc k))) ≡ true → 3 ≡ suc (suc (suc k))
last_role k e = let h = met_within 0 3 (suc (suc (suc k))) (and-left _ _ e) in omega (arith, h.1)

role-back : (n : ℕ) → (u8 ((0, 3) ∷ [])).fits n ≡ true → role_number (role_of n) ≡ n
role-back zero e = refl
role-back (suc zero) e = refl
role-back (suc (suc zero)) e = refl
role-back (suc (suc (suc k))) e = last_role k e

role-again : (r : Role) → role_of (role_number r) ≡ r
role-again UnitRole = refl
role-again LayoutRole = refl
role-again SeqrRole = refl
role-again ClientRole = refl

role_law : IsCodec role
role_law = via_law role_of role_number (u8_law _) role-back role-again

node_law : IsCodec node
node_law = via_law _ _ (dep_law role_law (λ _. u16_law _)) (λ x e. refl) (λ y. refl)

pub packet_law : IsCodec packet
unfolding packet
packet_law = via_law _ _ (dep_law (fixed_law _) (λ _. dep_law node_law (λ _. dep_law node_law (λ _. dep_law (u64_law _) (λ _. message_law))))) (λ x e. refl) (λ y. refl)
