-- What calls that read bytes answer.
use Rattle.std.specs.Prelude.{◌≡◌, ℕ, ◌-◌, ◌<◌, List, length, get_or, Result, Ok, Err}
use Rattle.tg_codec.specs.Reading.{Read}
use Rattle.tg_codec.specs.declared.fault.ReadFault.{ReadFault}
use Rattle.tg_codec.specs.declared.fault.ReadFault.TheVariants as reads
use Rattle.tg_kind.specs.declared.fault.KindFault.{KindFault}
use Rattle.tg_kind.specs.declared.fault.KindFault.TheVariants.{BadBytes, NoMemory}

abbrev pub IsBytes : List ℕ → Type 0
IsBytes bytes = (i : ℕ) → get_or bytes i 0 < 256

-- what was answered is what is read, unless memory ran out
abbrev pub Answers : {A : Type 0} → Result A KindFault → Result A ℕ → Type 0
Answers (Ok x) read = read ≡ Ok x
Answers (Err NoMemory) read = Unit {0}
Answers (Err (BadBytes at)) read = read ≡ Err at

-- the value in front with the length of its spelling, or the place where the bytes are wrong
abbrev pub front : {A : Type 0} → List ℕ → Read A → Result (A × ℕ) ℕ
front bytes (Ok x) = Ok (x.0, length bytes - length x.1)
front bytes (Err left) = Err (length bytes - left)

-- the place of a fault, counted from the first byte
abbrev pub Fault : KindFault → List ℕ → ReadFault → Type 0
Fault fault bytes reads.NoMemory = fault ≡ NoMemory
Fault fault bytes (reads.Stop left) = fault ≡ BadBytes (length bytes - left)
