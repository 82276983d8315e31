-- What is said of a refusal's place.
use Rattle.std.specs.Prelude.{ℕ, Result, Ok, Err, ⊤}
use Rattle.tg_kind.specs.declared.fault.KindFault.{KindFault}
use Rattle.tg_kind.specs.declared.fault.KindFault.TheVariants.{BadBytes, NoMemory}

abbrev pub OnBadBytes : {A : Type 0} → Result A KindFault → (ℕ → Type 0) → Type 0
OnBadBytes (Ok x) P = ⊤
OnBadBytes (Err NoMemory) P = ⊤
OnBadBytes (Err (BadBytes at)) P = P at
