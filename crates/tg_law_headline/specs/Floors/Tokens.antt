-- What tokens name.
use Rattle.std.specs.Prelude.{◌≡◌, ℕ, List, Contains}
use Rattle.tg_base.specs.declared.ids.Oid.{Oid}
use Rattle.tg_base.specs.declared.msg.Msg.TheVariants as msg
use Rattle.tg_base.specs.declared.packet.Packet.{Packet}
use Rattle.tg_kind.specs.Meaning.{Meaning}
use Rattle.tg_protocol.specs.Worlds.{World}
use Rattle.tg_protocol.specs.Chosen.{Sent}

abbrev pub NamesSome : List Oid → Type 0
NamesSome os = (o : Oid) × Contains os o

module _ (m : Meaning) where
  -- each token that was asked for is of some stream
  abbrev pub TokensName : World m → Type 0
  TokensName w = (x : Packet) (epoch : ℕ) (os : List Oid) → Sent m w x → x.msg ≡ msg.Token epoch os → NamesSome os
