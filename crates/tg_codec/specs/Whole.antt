-- Reading all of the bytes, with the place of the fault.
use Rattle.std.specs.Prelude.{◌≡◌, ℕ, ◌-◌, ◌<◌, ◌≤◌, ◌==◌, true, List, length, take, Result, Ok, Err, if◌then◌else◌}
use Rattle.tg_codec.specs.Reading.{Read}
use Rattle.tg_codec.specs.Codec.{Codec}
use Rattle.tg_codec.specs.declared.fault.ReadFault.{ReadFault}
use Rattle.tg_codec.specs.declared.fault.ReadFault.TheVariants as reads
use Rattle.tg_codec.specs.declared.fault.BytesFault.{BytesFault}
use Rattle.tg_codec.specs.declared.fault.BytesFault.TheVariants as faults

-- the value, or the place where the bytes are wrong
abbrev pub ended : {A : Type 0} → List ℕ → Read A → Result A ℕ
ended bytes (Ok x) = if length x.1 == 0 then Ok x.0 else Err (length bytes - length x.1)
ended bytes (Err left) = Err (length bytes - left)

abbrev pub whole : {A : Type 0} → Codec A → List ℕ → Result A ℕ
whole c bytes = ended bytes (c.read bytes)

-- what was answered is what is read, unless memory ran out
abbrev pub Answers : {A : Type 0} → Result A BytesFault → Result A ℕ → Type 0
Answers (Ok x) read = read ≡ Ok x
Answers (Err faults.NoMemory) read = Unit {0}
Answers (Err (faults.Refused at)) read = read ≡ Err at

-- the place of a fault, counted from the first byte
abbrev pub IsRefused : BytesFault → List ℕ → ReadFault → Type 0
IsRefused fault bytes reads.NoMemory = fault ≡ faults.NoMemory
IsRefused fault bytes (reads.Stop left) = fault ≡ faults.Refused (length bytes - left)

-- the bytes were read to their end, with no byte refused: lawful fields, and then at most a beginning of one
abbrev pub IsLawfulSoFar : {A : Type 0} → Read A → Type 0
IsLawfulSoFar (Ok x) = length x.1 ≡ 0
IsLawfulSoFar (Err left) = left ≡ 0

-- the front of so many bytes is lawful so far, and no longer one is
pub record IsLongestLawful {A : Type 0} (c : Codec A) (bytes : List ℕ) (at : ℕ) : Type 0 where
  pub within : at ≤ length bytes
  pub lawful : IsLawfulSoFar (c.read (take at bytes))
  pub longest : (m : ℕ) → at < m → m ≤ length bytes → IsLawfulSoFar (c.read (take m bytes)) → ⊥

-- the bytes are the spelling of a value
abbrev pub IsSpelling : {A : Type 0} → Codec A → A → List ℕ → Type 0
IsSpelling c x bytes = (c.fits x ≡ true) × (bytes ≡ c.spell x)

-- What reading all of the bytes means.
pub record IsWhole {A : Type 0} (c : Codec A) (bytes : List ℕ) (r : Result A ℕ) : Type 0 where
  -- a value is given exactly for its spelling
  pub found : (x : A) → r ≡ Ok x → IsSpelling c x bytes
  pub only : (x : A) → IsSpelling c x bytes → r ≡ Ok x
  -- else the place is the length of the longest front that is lawful so far
  pub place : (at : ℕ) → r ≡ Err at → IsLongestLawful c bytes at
