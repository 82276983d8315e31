-- The lines of a text, and a line that is taken of it.
use Rattle.std.specs.Prelude.{◌≡◌, ℕ, ◌-◌, ◌≤◌, ◌==◌, ◌++◌, Bool, true, false, List, [], ◌∷◌, Option, Some, None, length, take, drop}

-- The lines of a text. Each ends with a line feed, which the last may lack.
abbrev pub joined : ℕ → List (List ℕ) → List (List ℕ)
joined b [] = (b ∷ []) ∷ []
joined b (l ∷ ls) = (b ∷ l) ∷ ls

abbrev pub cut : ℕ → Bool → List (List ℕ) → List (List ℕ)
cut b true ls = [] ∷ ls
cut b false ls = joined b ls

abbrev pub lines : List ℕ → List (List ℕ)
lines [] = []
lines (b ∷ bs) = cut b (b == 10) (lines bs)

-- what is still to come: the bytes at hand, and then those that the source has left, where it tells
abbrev pub ahead : List ℕ → Option (List ℕ) → Option (List ℕ)
ahead bytes (Some left) = Some (bytes ++ left)
ahead bytes None = None

-- a line was the first of a text, and the rest is still to come; none is the end of it
abbrev pub IsFirst : List ℕ → List ℕ → Option (List ℕ) → Type 0
IsFirst text rest (Some line) = lines text ≡ line ∷ lines rest
IsFirst text rest None = (text ≡ []) × (rest ≡ [])

-- as far as the source tells its text
abbrev pub TakesLine : Option (List ℕ) → Option (List ℕ) → Option (List ℕ) → Type 0
TakesLine (Some text) (Some rest) line = IsFirst text rest line
TakesLine (Some text) None line = ⊥
TakesLine None rest line = Unit {0}

-- the bytes of a piece that are at hand
abbrev pub held : List ℕ → ℕ → ℕ → List ℕ
held piece from to = take (to - from) (drop from piece)

-- a text without a line feed in it
abbrev pub IsUnbroken : List ℕ → Type 0
IsUnbroken [] = Unit {0}
IsUnbroken (b ∷ bs) = ((b == 10) ≡ false) × IsUnbroken bs

abbrev pub fed : Bool → List ℕ → List ℕ
fed true rest = 10 ∷ rest
fed false rest = rest

-- A part of the bytes at hand was put at a line: those up to a line feed, which is taken too, or all of them.
pub record IsTaken (bytes rest before after : List ℕ) (found : Bool) : Type 0 where
  pub part : List ℕ
  pub unbroken : IsUnbroken part
  pub added : after ≡ before ++ part
  pub cut : bytes ≡ part ++ fed found rest
  pub all : found ≡ false → rest ≡ []

-- a line without a line feed began the text, and the rest is still to come, as far as the source tells its text
abbrev pub Begun : Option (List ℕ) → Option (List ℕ) → List ℕ → Type 0
Begun (Some text) (Some rest) line = IsUnbroken line × (text ≡ line ++ rest)
Begun (Some text) None line = ⊥
Begun None rest line = Unit {0}

-- the last line, which has no line feed, if there is one
abbrev pub last_of : List ℕ → Option (List ℕ)
last_of [] = None
last_of (b ∷ bs) = Some (b ∷ bs)

pub record IsPiece (piece : List ℕ) (from to : ℕ) : Type 0 where
  pub whole : length piece ≡ 4096
  pub ordered : from ≤ to
  pub within : to ≤ 4096
