-- The line feeds of what was taken of a text, and what came before a fault of its source.
use Rattle.std.specs.Prelude.{◌≡◌, ℕ, ◌+◌, ◌≤◌, ◌==◌, List, [], ◌∷◌, ◌++◌, Option, Some, None, if◌then◌else◌}

abbrev pub feeds : List ℕ → ℕ
feeds [] = 0
feeds (b ∷ bs) = (if b == 10 then 1 else 0) + feeds bs

-- a front of the text was taken, with so many line feeds at most, as far as the source tells its text
abbrev pub TakesFeeds : ℕ → Option (List ℕ) → Option (List ℕ) → Type 0
TakesFeeds n (Some text) (Some rest) = (came : List ℕ) × (text ≡ came ++ rest) × (feeds came ≤ n)
TakesFeeds n (Some text) None = ⊥
TakesFeeds n None rest = Unit {0}

-- Of the lines of the text that came whole none is outside; the source has this much left.
abbrev pub NoneOutside : List ℕ → Option (List ℕ) → (ℕ → Type 0) → Type 0
NoneOutside text (Some left) IsOutside = (came : List ℕ) × (text ≡ came ++ left) × ((n : ℕ) → n ≤ feeds came → IsOutside n → ⊥)
NoneOutside text None IsOutside = ⊥
