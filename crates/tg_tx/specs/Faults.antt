-- The faults that are told, and the definitions'.
use Rattle.std.specs.Prelude.{◌≡◌, Bool, true, false, Option, Some, None, Result, Ok, Err}
use Rattle.tg_protocol.specs.Transactions as told
use Rattle.tg_tx.specs.declared.fault.TxFault.{TxFault}
use Rattle.tg_tx.specs.declared.fault.TxFault.TheVariants.{TooMany, TooLarge, NoMemory}

-- the definitions find this fault
abbrev pub Refuses : TxFault → Option told.TxFault → Type 0
Refuses (TooMany what) f = f ≡ Some (told.TooMany what)
Refuses (TooLarge bytes) f = f ≡ Some (told.TooLarge bytes)
Refuses NoMemory f = ⊥

-- the definitions find this fault, or none where memory ran out
abbrev pub Faults : TxFault → Option told.TxFault → Type 0
Faults (TooMany what) f = f ≡ Some (told.TooMany what)
Faults (TooLarge bytes) f = f ≡ Some (told.TooLarge bytes)
Faults NoMemory f = f ≡ None

abbrev pub is_too_many : Option told.TxFault → Bool
is_too_many (Some (told.TooMany what)) = true
is_too_many _ = false

-- the same where the size is known only with memory: then there aren't too many
abbrev pub FaultsLate : TxFault → Option told.TxFault → Type 0
FaultsLate (TooMany what) f = f ≡ Some (told.TooMany what)
FaultsLate (TooLarge bytes) f = f ≡ Some (told.TooLarge bytes)
FaultsLate NoMemory f = is_too_many f ≡ false

-- whether the definitions find a fault, and which
abbrev pub Judges : {A : Type 0} → Result A TxFault → Option told.TxFault → Type 0
Judges (Ok x) f = f ≡ None
Judges (Err e) f = Refuses e f
