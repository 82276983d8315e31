-- What is answered.
use Rattle.std.specs.Prelude.{◌≡◌, ℕ, true, List, ◌++◌, Result, Ok, Err}
use Rattle.tg_codec.specs.Codec.{Codec}
use Rattle.tg_codec.specs.declared.fault.BytesFault.{BytesFault}
use Rattle.tg_codec.specs.declared.fault.BytesFault.TheVariants as bytes
use Rattle.tg_wire.specs.declared.fault.WireFault.{WireFault}
use Rattle.tg_wire.specs.declared.fault.WireFault.TheVariants as faults

abbrev pub of_bytes : BytesFault → WireFault
of_bytes bytes.NoMemory = faults.NoMemory
of_bytes (bytes.Refused at) = faults.BadPacket at

-- what reading all of the bytes gives, unless memory ran out
abbrev pub Decodes : {A : Type 0} → Result A WireFault → Result A ℕ → Type 0
Decodes (Ok p) read = read ≡ Ok p
Decodes (Err faults.NoMemory) read = Unit {0}
Decodes (Err (faults.BadPacket at)) read = read ≡ Err at

abbrev pub OnBadPacket : {A : Type 0} → Result A WireFault → (ℕ → Type 0) → Type 0
OnBadPacket (Ok p) P = Unit {0}
OnBadPacket (Err faults.NoMemory) P = Unit {0}
OnBadPacket (Err (faults.BadPacket at)) P = P at

-- no spelling begins another
abbrev pub IsPrefixFree : {A : Type 0} → Codec A → Type 0
IsPrefixFree {A} c = (x y : A) (after_x after_y : List ℕ) → c.fits x ≡ true → c.fits y ≡ true → c.spell x ++ after_x ≡ c.spell y ++ after_y → x ≡ y
