-- What a read takes of the bytes still to come, and what a write adds to those taken, where they are told.
use Rattle.std.specs.Prelude.{◌≡◌, ℕ, List, ◌++◌, Option, Some, None}

-- the bytes to come began with the piece, and have lost it
abbrev pub Gives : Option (List ℕ) → List ℕ → Option (List ℕ) → Type 0
Gives (Some bytes) piece after = (rest : List ℕ) × (bytes ≡ piece ++ rest) × (after ≡ Some rest)
Gives None piece after = after ≡ None

-- the list that is told has grown by these
abbrev pub Grows : {X : Type 0} → Option (List X) → List X → Option (List X) → Type 0
Grows (Some xs) more after = after ≡ Some (xs ++ more)
Grows None more after = after ≡ None

-- the bytes taken have grown by the piece
abbrev pub Takes : Option (List ℕ) → List ℕ → Option (List ℕ) → Type 0
Takes before piece after = Grows before piece after

-- the bytes taken have grown by a front of the piece
abbrev pub TakesFront : Option (List ℕ) → List ℕ → Option (List ℕ) → Type 0
TakesFront before piece after = (front rest : List ℕ) × (piece ≡ front ++ rest) × Takes before front after
