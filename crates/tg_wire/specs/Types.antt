-- Numbers of their fields' types.
use Rattle.std.specs.Prelude.{ℕ, ◌<◌, ◌^◌, List, [], ◌∷◌, Option, Some, None}
use Rattle.tg_base.specs.Layouts.{IsWithinTypes}
use Rattle.tg_base.specs.declared.ids.Ballot.{Ballot}
use Rattle.tg_base.specs.declared.marks.StreamLink.{StreamLink}
use Rattle.tg_base.specs.declared.msg.Msg.{Msg}
use Rattle.tg_base.specs.declared.msg.Msg.TheVariants.{Read, Write, Fill, Copy, Has, Seal, Trim, Gone, Fenced, Sealed, Missing, Prepare, Accept, Decided, Promise, Nack, Accepted, Latest, Learn, Token, Check, Issued, Tail, Scanning, OldEpoch, Full}
use Rattle.tg_base.specs.declared.packet.Packet.{Packet}
use Rattle.tg_wire.specs.Fields.{Proposal}

-- a number of eight bytes
abbrev pub IsLong : ℕ → Type 0
IsLong n = n < 2 ^ 64

abbrev pub IsTypedBallot : Ballot → Type 0
IsTypedBallot b = (b.round < 2 ^ 32) × (b.client < 2 ^ 16)

abbrev pub AreLong : List ℕ → Type 0
AreLong [] = Unit {0}
AreLong (p ∷ ps) = IsLong p × AreLong ps

abbrev pub AreTypedLinks : List StreamLink → Type 0
AreTypedLinks [] = Unit {0}
AreTypedLinks (l ∷ ls) = AreLong l.backs × AreTypedLinks ls

abbrev pub IsTypedVote : Option Proposal → Type 0
IsTypedVote None = Unit {0}
IsTypedVote (Some p) = IsTypedBallot p.0 × IsWithinTypes p.1

abbrev pub IsTypedMessage : Msg → Type 0
IsTypedMessage (Read epoch pos) = IsLong epoch × IsLong pos
IsTypedMessage (Write epoch pos page) = IsLong epoch × IsLong pos
IsTypedMessage (Fill epoch pos) = IsLong epoch × IsLong pos
IsTypedMessage (Copy epoch pos cell) = IsLong epoch × IsLong pos
IsTypedMessage (Has epoch lo hi step) = (IsLong epoch × IsLong lo) × (IsLong hi × IsLong step)
IsTypedMessage (Seal epoch) = IsLong epoch
IsTypedMessage (Trim epoch below) = IsLong epoch × IsLong below
IsTypedMessage (Gone below) = IsLong below
IsTypedMessage (Fenced epoch) = IsLong epoch
IsTypedMessage (Sealed epoch high) = IsLong epoch × IsLong high
IsTypedMessage (Missing pos) = IsLong pos
IsTypedMessage (Prepare epoch ballot) = IsLong epoch × IsTypedBallot ballot
IsTypedMessage (Accept epoch ballot proj) = (IsLong epoch × IsTypedBallot ballot) × IsWithinTypes proj
IsTypedMessage (Decided proj) = IsWithinTypes proj
IsTypedMessage (Promise epoch ballot accepted) = (IsLong epoch × IsTypedBallot ballot) × IsTypedVote accepted
IsTypedMessage (Nack epoch ballot) = IsLong epoch × IsTypedBallot ballot
IsTypedMessage (Accepted epoch ballot) = IsLong epoch × IsTypedBallot ballot
IsTypedMessage (Latest proj) = IsWithinTypes proj
IsTypedMessage (Learn proj) = IsWithinTypes proj
IsTypedMessage (Token epoch oids) = IsLong epoch
IsTypedMessage (Check epoch oids) = IsLong epoch
IsTypedMessage (Issued pos links) = IsLong pos × AreTypedLinks links
IsTypedMessage (Tail tail links) = IsLong tail × AreTypedLinks links
IsTypedMessage (Scanning next start) = IsLong next × IsLong start
IsTypedMessage (OldEpoch epoch) = IsLong epoch
IsTypedMessage (Full limit) = IsLong limit
IsTypedMessage other = Unit {0}

-- The names, the request's number and the message have numbers of their fields' types.
pub record IsTyped (p : Packet) : Type 0 where
  pub from : p.from.num < 2 ^ 16
  pub to : p.to.num < 2 ^ 16
  pub rid : IsLong p.rid
  pub msg : IsTypedMessage p.msg
