-- What is answered, by the definitions' answers.
use Rattle.std.specs.Prelude.{◌≡◌, ℕ, Option, Some, None, Result, Ok, Err}
use Rattle.tg_base.specs.declared.ids.Oid.{Oid}
use Rattle.tg_kind.specs.Meaning.{Meaning}
use Rattle.tg_protocol.specs.Views as told
use Rattle.tg_protocol.specs.Checkpoints as forgetting
use Rattle.tg_play.specs.declared.base.Base.{Base}
use Rattle.tg_play.specs.Relations.{KeepsBase}
use Rattle.tg_ckpt.specs.declared.fault.LoadFault.{LoadFault}
use Rattle.tg_ckpt.specs.declared.fault.LoadFault.TheVariants as loads
use Rattle.tg_ckpt.specs.declared.fault.ForgetFault.{ForgetFault}
use Rattle.tg_ckpt.specs.declared.fault.ForgetFault.TheVariants as forgets

-- what isn't loaded isn't forgotten
abbrev pub of_load : LoadFault → ForgetFault
of_load (loads.NoCheckpoint o) = forgets.NoCheckpoint o
of_load loads.NoMemory = forgets.NoMemory

-- no record is told that needs a decision record and has none, or this one, unless memory ran out
abbrev pub Closes : {A : Type 0} → Result A ForgetFault → Option ℕ → Type 0
Closes (Ok x) p = p ≡ None
Closes (Err (forgets.OpenDecision q)) p = p ≡ Some q
Closes (Err forgets.NoMemory) p = Unit {0}
Closes (Err (forgets.NoCheckpoint o)) p = ⊥

module _ (m : Meaning) where
  abbrev pub KeepsMaybe : Option (Base m.state) → Option (told.Base m) → Type 0
  KeepsMaybe None None = Unit {0}
  KeepsMaybe (Some b) (Some d) = KeepsBase m b d
  KeepsMaybe _ _ = ⊥

  -- the definitions' base, or none, unless memory ran out
  abbrev pub Loads : Oid → Result (Base m.state) LoadFault → Option (told.Base m) → Type 0
  Loads o (Ok b) d = KeepsMaybe (Some b) d
  Loads o (Err (loads.NoCheckpoint q)) d = (q ≡ o) × (d ≡ None)
  Loads o (Err loads.NoMemory) d = Unit {0}

  -- the definitions' fault, or none, unless memory ran out
  abbrev pub Forgets : {A : Type 0} → Oid → Result A ForgetFault → Option (forgetting.ForgetFault m) → Type 0
  Forgets o (Ok x) f = f ≡ None
  Forgets o (Err (forgets.NoCheckpoint q)) f = (q ≡ o) × (f ≡ Some forgetting.NoCheckpoint)
  Forgets o (Err (forgets.OpenDecision p)) f = f ≡ Some (forgetting.OpenDecision p)
  Forgets o (Err forgets.NoMemory) f = Unit {0}
