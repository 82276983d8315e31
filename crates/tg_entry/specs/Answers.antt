-- What is answered.
use Rattle.std.specs.Prelude.{◌≡◌, ◌≤◌, ◌<◌, ℕ, List, length, Result, Ok, Err}
use Rattle.tg_codec.specs.declared.fault.BytesFault.{BytesFault}
use Rattle.tg_codec.specs.declared.fault.BytesFault.TheVariants as bytes
use Rattle.tg_entry.specs.declared.fault.EntryFault.{EntryFault}
use Rattle.tg_entry.specs.declared.fault.EntryFault.TheVariants as faults

abbrev pub of_bytes : BytesFault → EntryFault
of_bytes bytes.NoMemory = faults.NoMemory
of_bytes (bytes.Refused at) = faults.BadEntry at

-- what reading all of the bytes gives, unless memory ran out
abbrev pub Decodes : {A : Type 0} → Result A EntryFault → Result A ℕ → Type 0
Decodes (Ok e) read = read ≡ Ok e
Decodes (Err faults.NoMemory) read = Unit {0}
Decodes (Err (faults.BadEntry at)) read = read ≡ Err at
Decodes (Err (faults.TooLarge bytes)) read = ⊥

abbrev pub OnBadEntry : {A : Type 0} → Result A EntryFault → (ℕ → Type 0) → Type 0
OnBadEntry (Ok e) P = Unit {0}
OnBadEntry (Err faults.NoMemory) P = Unit {0}
OnBadEntry (Err (faults.BadEntry at)) P = P at
OnBadEntry (Err (faults.TooLarge bytes)) P = Unit {0}

-- The spelling as a page; that it is too large exactly where it has more than 4,096 bytes; or memory ran out.
abbrev pub Encodes : List ℕ → Result (List ℕ) EntryFault → Type 0
Encodes spelling (Ok page) = page ≡ spelling
Encodes spelling (Err faults.NoMemory) = length spelling ≤ 4096
Encodes spelling (Err (faults.BadEntry at)) = ⊥
Encodes spelling (Err (faults.TooLarge bytes)) = (bytes ≡ length spelling) × (4096 < bytes)
