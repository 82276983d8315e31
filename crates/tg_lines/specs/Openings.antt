-- What the first lines of a text are.
use Rattle.std.specs.Prelude.{◌≡◌, ◌⊎◌, ℕ, ◌+◌, ◌<◌, ◌≤◌, ◌++◌, List, [], length, Option, Some, None}
use Rattle.tg_script.specs.Headers.{header_lines, IsFirstOutside}
use Rattle.tg_lines.specs.Lines.{lines}
use Rattle.tg_lines.specs.declared.header.Opening.{Opening}
use Rattle.tg_lines.specs.declared.header.Opening.TheVariants.{Opens, Outside}

-- the text begins with a header, and the rest is still to come; or one of the first three lines is the first outside
abbrev pub IsOpened : List ℕ → List ℕ → Opening → Type 0
IsOpened text rest (Opens h) = lines text ≡ header_lines h ++ lines rest
IsOpened text rest (Outside n) = (n ≤ 3) × IsFirstOutside (lines text) n

-- what holds where the text begins with a header
abbrev pub OnOpens : Opening → Type 0 → Type 0
OnOpens (Opens h) P = P
OnOpens (Outside n) P = Unit {0}

-- as far as the source tells its text
abbrev pub Opened : Option (List ℕ) → Option (List ℕ) → Opening → Type 0
Opened (Some text) (Some rest) opening = IsOpened text rest opening
Opened (Some text) None opening = ⊥
Opened None rest opening = Unit {0}

-- What was taken of the text: a header's lines; or those up to and with the one that is outside, which the text may lack.
abbrev pub TookLines : List ℕ → List ℕ → Opening → Type 0
TookLines text rest (Opens h) = lines text ≡ header_lines h ++ lines rest
TookLines text rest (Outside n) = (read : List (List ℕ)) × (lines text ≡ read ++ lines rest) × ((length read ≡ n) ⊎ ((rest ≡ []) × (length read + 1 ≡ n)))

-- as far as the source tells its text
abbrev pub Took : Option (List ℕ) → Option (List ℕ) → Opening → Type 0
Took (Some text) (Some rest) opening = TookLines text rest opening
Took (Some text) None opening = ⊥
Took None rest opening = Unit {0}

-- these lines were the first of a text, and the rest is still to come, as far as the source tells its text
abbrev pub Reached : Option (List ℕ) → Option (List ℕ) → List (List ℕ) → Type 0
Reached (Some text) (Some rest) ls = lines text ≡ ls ++ lines rest
Reached (Some text) None ls = ⊥
Reached None rest ls = Unit {0}

-- what lines are after which none is read
abbrev pub IsOpening : List (List ℕ) → Opening → Type 0
IsOpening ls (Opens h) = ls ≡ header_lines h
IsOpening ls (Outside n) = IsFirstOutside ls n

-- no header has this line after those before it: it is the first outside, or past the third
abbrev pub IsNoLine : List (List ℕ) → ℕ → Type 0
IsNoLine ls n = (3 < n) ⊎ IsFirstOutside ls n
