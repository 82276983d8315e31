-- The calls of a form in memory: how many were made, and the numbers of those that fail.
use Rattle.std.specs.Prelude.{ℕ, ◌+◌, ◌^◌, ◌==◌, Bool, ◌&&◌, List, length, nat_lt, if◌then◌else◌, zero, suc}
use Rattle.std.specs.List.{list_any}

-- calls are counted to 2^64: no list names a later one
pub record Count : Type 0 where
  pub made : ℕ
  pub fails : List ℕ

-- whether the list names the call
abbrev pub names : List ℕ → ℕ → Bool
names fails call = list_any (λ number. number == call) fails

-- whether the next call fails
abbrev pub fails_next : Count → Bool
fails_next c = nat_lt c.made (2 ^ 64) && names c.fails c.made

-- one call more
abbrev pub called : Count → Count
called c = record c { made = if nat_lt c.made (2 ^ 64) then c.made + 1 else c.made }

-- how many of the first calls the list names
abbrev pub failed : List ℕ → ℕ → ℕ
failed fails zero = 0
failed fails (suc calls) = failed fails calls + (if names fails calls then 1 else 0)

-- how many calls have failed
abbrev pub failures : Count → ℕ
failures c = failed c.fails c.made

-- whether no call fails, whatever its number
abbrev pub never_fails : Count → Bool
never_fails c = length c.fails == 0
