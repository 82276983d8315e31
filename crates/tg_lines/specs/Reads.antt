-- Which reads a line takes: none where it is at hand, else those up to the one that brings its line feed.
use Rattle.std.specs.Prelude.{◌≡◌, ◌≢◌, ◌⊎◌, ℕ, List, [], ◌∷◌, ◌++◌, Option, Some}
use Rattle.tg_io.specs.Bytes.{Grows}
use Rattle.tg_lines.specs.Lines.{IsUnbroken, last_of}

-- pieces as one text
abbrev pub text_of : List (List ℕ) → List ℕ
text_of [] = []
text_of (p ∷ ps) = p ++ text_of ps

-- no piece has a line feed
abbrev pub AreUnbroken : List (List ℕ) → Type 0
AreUnbroken [] = Unit {0}
AreUnbroken (p ∷ ps) = IsUnbroken p × AreUnbroken ps

-- The bytes at hand, and then the pieces that came: the last of them is the first with a line feed, which ends the line.
-- What stands behind it is at hand then.
pub record EndsInLast (held rest : List ℕ) (came : List (List ℕ)) (line : List ℕ) : Type 0 where
  pub earlier : List (List ℕ)
  pub part : List ℕ
  pub pieces : held ∷ came ≡ earlier ++ (part ++ 10 ∷ rest) ∷ []
  pub unbroken : AreUnbroken earlier
  pub within : IsUnbroken part
  pub whole : line ≡ text_of earlier ++ part

-- Nothing came with the last read, and no line feed before it: what there is is the last line, or the text is at its end.
pub record EndsWithText (held rest : List ℕ) (came : List (List ℕ)) (line : Option (List ℕ)) : Type 0 where
  pub earlier : List (List ℕ)
  pub pieces : held ∷ came ≡ earlier ++ [] ∷ []
  pub read : earlier ≢ []
  pub unbroken : AreUnbroken earlier
  pub none : rest ≡ []
  pub whole : line ≡ last_of (text_of earlier)

-- no read follows the one that brought the line feed, as far as the source tells its pieces
abbrev pub ReadsLine : List ℕ → List ℕ → Option (List (List ℕ)) → Option (List (List ℕ)) → Option (List ℕ) → Type 0
ReadsLine held rest before after line =
    (came : List (List ℕ)) × Grows before came after × (((l : List ℕ) × (line ≡ Some l) × EndsInLast held rest came l) ⊎ EndsWithText held rest came line)
