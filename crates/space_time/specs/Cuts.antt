-- The event lines that are named, and the steps that are drawn.
use Rattle.std.specs.Prelude.{ℕ, nat_le, nat_lt, min, List, [], ◌∷◌, length, codes, Option, Some, None, option_and_then, if◌then◌else◌}
use Rattle.std.specs.List.{position}
use Rattle.std.specs.Str.{bytes_eq}
use Rattle.tg_any.specs.Decimals.{number_in}
use Rattle.tg_picture.specs.Courses.{or_else}
use Rattle.tg_picture.specs.declared.steps.Step.{Step}
use Rattle.space_time.specs.declared.cut.Cut.{Cut}

-- The words: `--from LINE` and `--to LINE`, each at most once, in any order.

abbrev pub unless_named : Option ℕ → Cut → Option Cut
unless_named None c = Some c
unless_named (Some line) c = None

abbrev pub with_word : List ℕ → ℕ → Cut → Option Cut
with_word word line c =
    if bytes_eq word (codes "--from") then unless_named c.from (record c { from = Some line })
    else (if bytes_eq word (codes "--to") then unless_named c.to (record c { to = Some line }) else None)

-- a word and the number after it
abbrev pub with_line : List ℕ → List ℕ → Cut → Option Cut
with_line word value c = option_and_then (λ line. with_word word line c) (number_in value)

abbrev pub no_cut : Cut
no_cut = record { from = None; to = None }

-- what the words name, if they are such words
abbrev pub cut_of : List (List ℕ) → Option Cut
cut_of [] = Some no_cut
cut_of (word ∷ value ∷ []) = with_line word value no_cut
cut_of (word ∷ value ∷ other ∷ line ∷ []) = option_and_then (λ c. with_line other line c) (with_line word value no_cut)
cut_of words = None

-- The steps.

-- the first step of a line or of a later one
abbrev pub first_from : List Step → ℕ → ℕ
first_from ss line = or_else (position (λ (s : Step). nat_le line s.line) ss) (length ss)

-- the first step of a line later than this one
abbrev pub first_past : List Step → ℕ → ℕ
first_past ss line = or_else (position (λ (s : Step). nat_lt line s.line) ss) (length ss)

abbrev pub begin_of : Option ℕ → List Step → ℕ
begin_of None ss = 0
begin_of (Some line) ss = first_from ss line

-- at most 2,000 steps where no line is named
abbrev pub end_of : Option ℕ → Option ℕ → List Step → ℕ
end_of from (Some line) ss = first_past ss line
end_of (Some line) None ss = length ss
end_of None None ss = min (length ss) 2000

-- the steps that are drawn: from the first number on and below the second
abbrev pub drawn : Cut → List Step → ℕ × ℕ
drawn c ss = (min (begin_of c.from ss) (end_of c.from c.to ss), end_of c.from c.to ss)
