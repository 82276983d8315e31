-- Why a live run gives nothing: its source, or its link.
use Rattle.std.specs.Prelude.{◌≤◌, ℕ, Result, IsErrOf}
use Rattle.tg_io.specs.Faults.{Rose}
use Rattle.tg_io.specs.declared.fault.IoErr.{IoErr}
use Rattle.tg_io.specs.declared.fault.IoErr.TheVariants as io
use Rattle.tg_live.specs.declared.stages.Stop.{Stop}
use Rattle.tg_live.specs.declared.stages.Stop.TheVariants.{Read, Carry, NoMemory}

abbrev pub of_source : IoErr → Stop
of_source io.Failed = Read
of_source io.NoMemory = NoMemory

abbrev pub of_link : IoErr → Stop
of_link io.Failed = Carry
of_link io.NoMemory = NoMemory

-- neither count fell, and a run that was cut off has its cause in one
pub record HasCauses {X : Type 0} (source source_now link link_now : ℕ) (result : Result X Stop) : Type 0 where
  pub source_later : source ≤ source_now
  pub link_later : link ≤ link_now
  pub read : IsErrOf result Read → Rose source source_now
  pub carried : IsErrOf result Carry → Rose link link_now

-- a call that asks the source alone
pub record HasReadCause {X : Type 0} (before now : ℕ) (result : Result X Stop) : Type 0 where
  pub later : before ≤ now
  pub failed : IsErrOf result Read → Rose before now
  pub other : IsErrOf result Carry → ⊥

-- a call that asks the link alone
pub record HasLinkCause {X : Type 0} (before now : ℕ) (result : Result X Stop) : Type 0 where
  pub later : before ≤ now
  pub failed : IsErrOf result Carry → Rose before now
  pub other : IsErrOf result Read → ⊥
