-- Counts of faults over several calls.
use Rattle.std.proofs.Common.{arith, ℕ, ◌≤◌, Bool, Result}
use Rattle.tg_io.specs.Faults.{Rose, HasCause, StaysSure}
use Rattle.tg_io.specs.declared.fault.IoErr.{IoErr}

-- a count that rose stays so
pub rose_later : (a b c : ℕ) → Rose a b → b ≤ c → Rose a c
rose_later a b c r h = grind arith

-- a count that rose later has risen since before
pub rose_since : (a b c : ℕ) → a ≤ b → b ≤ c → Rose b c → Rose a c
rose_since a b c h k r = grind arith

-- a call's cause is the cause of all calls up to it
pub cause_since : {X : Type 0} → (a b c : ℕ) (r : Result X IoErr) → a ≤ b → HasCause b c r → HasCause a c r
cause_since a b c r h k = record { later = omega (arith, h, k.later); failed = λ e. rose_since a b c h k.later (k.failed e) }

-- what is sure not to fail stays so over two calls
pub sure_since : (x y z : Bool) (a b c : ℕ) → StaysSure x y a b → StaysSure y z b c → StaysSure x z a c
sure_since x y z a b c h k = grind arith
