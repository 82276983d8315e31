-- What is decoded is spelled so, what is spelled so is decoded, and the place of a fault is right.
use Rattle.std.proofs.Common.{◌≡◌, ℕ, true, List, Result, Ok, Err, subst}
use Rattle.std.specs.Prelude.{IfOk}
use Rattle.tg_base.specs.declared.packet.Packet.{Packet}
use Rattle.tg_codec.specs.Whole.{whole, IsSpelling, IsLongestLawful}
use Rattle.tg_codec.proofs.Laws.{IsBytes}
use Rattle.tg_codec.proofs.Wholes.{whole_law}
use Rattle.tg_wire.specs.Packets.{packet}
use Rattle.tg_wire.specs.Rules.{fits}
use Rattle.tg_wire.proofs.Packets.{packet_law}
use Rattle.tg_wire.proofs.Fitting.{keeps_rules}
use Rattle.tg_wire.specs.declared.fault.WireFault.{WireFault}
use Rattle.tg_wire.specs.declared.fault.WireFault.TheVariants as faults
use Rattle.tg_wire.specs.Answers.{Decodes, OnBadPacket}

pub is_found : (bytes : List ℕ) (r : Result Packet WireFault) → IsBytes bytes → Decodes r (whole packet bytes) → IfOk r (λ p. IsSpelling packet p bytes)
is_found bytes (Ok p) fits h = (whole_law packet_law bytes fits).found p h
is_found bytes (Err faults.NoMemory) fits h = tt
is_found bytes (Err (faults.BadPacket at)) fits h = tt

pub is_only : (bytes : List ℕ) (r : Result Packet WireFault) (p : Packet) → IsBytes bytes → IsSpelling packet p bytes → Decodes r (whole packet bytes) → Decodes r (Ok p)
is_only bytes r p fits s h = subst (λ f. Decodes r f) ((whole_law packet_law bytes fits).only p s) h

pub is_placed : (bytes : List ℕ) (r : Result Packet WireFault) → IsBytes bytes → Decodes r (whole packet bytes) → OnBadPacket r (IsLongestLawful packet bytes)
is_placed bytes (Ok p) fits h = tt
is_placed bytes (Err faults.NoMemory) fits h = tt
is_placed bytes (Err (faults.BadPacket at)) fits h = (whole_law packet_law bytes fits).place at h

pub is_ruled : (bytes : List ℕ) (r : Result Packet WireFault) → IsBytes bytes → Decodes r (whole packet bytes) → IfOk r (λ p. fits p ≡ true)
is_ruled bytes (Ok p) b h = keeps_rules p ((whole_law packet_law bytes b).found p h).0
is_ruled bytes (Err faults.NoMemory) b h = tt
is_ruled bytes (Err (faults.BadPacket at)) b h = tt

-- what is written is the spelling of a packet that has one
pub is_spelled : {E : Type 0} (p : Packet) (r : Result (List ℕ) E) → packet.fits p ≡ true → IfOk r (λ bytes. bytes ≡ packet.spell p) → IfOk r (λ bytes. IsSpelling packet p bytes)
is_spelled p (Ok bytes) f h = (f, h)
is_spelled p (Err e) f h = h
