-- What a call has to do with the count of faults of the outside.
use Rattle.std.specs.Prelude.{◌≡◌, ℕ, ◌<◌, ◌≤◌, ◌-◌, ◌^◌, ◌⊎◌, Bool, Result, IsErrOf, IsTrue}
use Rattle.tg_io.specs.declared.fault.IoErr.{IoErr}
use Rattle.tg_io.specs.declared.fault.IoErr.TheVariants.{Failed}

-- the count rose; one that stands at 2^64 - 1 can't, and passes as risen
abbrev pub Rose : ℕ → ℕ → Type 0
Rose before now = (before < now) ⊎ (before ≡ 2 ^ 64 - 1)

-- the count didn't fall, and a call that failed has its cause in it
pub record HasCause {X : Type 0} (before now : ℕ) (result : Result X IoErr) : Type 0 where
  pub later : before ≤ now
  pub failed : IsErrOf result Failed → Rose before now

-- what is sure never to fail stays so, and its count stands still
pub record StaysSure (was is : Bool) (before now : ℕ) : Type 0 where
  pub sure : IsTrue was → IsTrue is
  pub still : IsTrue was → now ≡ before
