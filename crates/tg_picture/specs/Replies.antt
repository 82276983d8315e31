-- The places of replies: the step in which each was told.
use Rattle.std.specs.Prelude.{ℕ, zero, suc, nat_lt, nat_le, List, [], ◌∷◌, ◌++◌, length, slice_get, Option, Some, None, if◌then◌else◌}
use Rattle.std.specs.List.{position}
use Rattle.tg_picture.specs.declared.steps.Step.{Step}
use Rattle.tg_picture.specs.declared.telling.Telling.{Telling}
use Rattle.tg_picture.specs.Courses.{or_else}

-- the first step by which more replies had been told than this number
abbrev pub told_in : List Step → ℕ → ℕ
told_in ss n = or_else (position (λ (s : Step). nat_lt n s.told) ss) (length ss)

abbrev pub told_by : Option Step → ℕ
told_by None = 0
told_by (Some s) = s.told

-- how many replies had been told before step k
abbrev pub told_before : List Step → ℕ → ℕ
told_before ss zero = 0
told_before ss (suc k) = told_by (slice_get ss k)

-- the replies from a number on and below another, each with its step
unfoldable pub told_from : List Step → ℕ → ℕ → List Telling
told_from ss low zero = []
told_from ss low (suc n) = told_from ss low n ++ (if nat_le low n then record { reply = n; step = told_in ss n } ∷ [] else [])

-- the replies that were told in the steps from `from` on and below `upto`
abbrev pub tellings : List Step → ℕ → ℕ → List Telling
tellings ss from upto = told_from ss (told_before ss from) (told_before ss upto)
