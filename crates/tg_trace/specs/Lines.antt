-- Lines are words with a space between any two, and phrases are put together of words.
use Rattle.std.specs.Prelude.{ℕ, Bool, ◌&&◌, ◌==◌, nat_lt, List, [], ◌∷◌, ◌++◌, map, Option, Some, None, if◌then◌else◌}
use Rattle.std.specs.List.{list_all, slice_split}
use Rattle.std.specs.Fmt.{decimal}
use Rattle.std.specs.Str.{bytes_eq}
use Rattle.tg_base.specs.declared.ids.Oid.{Oid}
use Rattle.tg_any.specs.Decimals.{number_in}
use Rattle.tg_any.specs.Fronts.{◌>>=◌, after}
use Rattle.tg_any.specs.Words.{Word, Phrase, object}

-- each word behind a space
abbrev pub spaced : List (List ℕ) → List ℕ
spaced [] = []
spaced (w ∷ ws) = 32 ∷ w ++ spaced ws

-- an object behind a space
abbrev pub spaced_object : Oid → List ℕ
spaced_object o = spaced (object.spell o ∷ [])

-- the words with a space between any two
abbrev pub line_of : List (List ℕ) → List ℕ
line_of [] = []
line_of (w ∷ ws) = w ++ spaced ws

-- the words of a line
abbrev pub words_of : List ℕ → List (List ℕ)
words_of line = slice_split (λ b. b == 32) line

-- a number of 16 bits after a letter, as `u3`
abbrev pub lettered : List ℕ → Word ℕ
lettered letter = record {
  spell = λ n. letter ++ decimal n;
  fits = λ n. nat_lt n 65536;
  read = λ word. after letter word >>= λ rest. number_in rest >>= λ n. if nat_lt n 65536 then Some n else None;
}

-- the first word's value, and the other words
abbrev pub first_at : {A : Type 0} → Word A → List (List ℕ) → Option (A × List (List ℕ))
first_at a [] = None
first_at a (w ∷ ws) = a.read w >>= λ x. Some (x, ws)

-- a word, and then others
abbrev pub first_read : {A B : Type 0} → Word A → Phrase B → List (List ℕ) → Option (A × B)
first_read a b words = first_at a words >>= λ p. b.read p.1 >>= λ y. Some (p.0, y)

abbrev pub first : {A B : Type 0} → Word A → Phrase B → Phrase (A × B)
first a b = record { spell = λ p. a.spell p.0 ∷ b.spell p.1; fits = λ p. a.fits p.0 && b.fits p.1; read = first_read a b }

-- the words after a name
abbrev pub after_name : List ℕ → List (List ℕ) → Option (List (List ℕ))
after_name name [] = None
after_name name (w ∷ ws) = if bytes_eq w name then Some ws else None

-- a name, and then words
abbrev pub named_read : {A : Type 0} → List ℕ → Phrase A → List (List ℕ) → Option A
named_read name phrase words = after_name name words >>= λ rest. phrase.read rest

abbrev pub named : {A : Type 0} → List ℕ → Phrase A → Phrase A
named name phrase = record { spell = λ x. name ∷ phrase.spell x; fits = phrase.fits; read = named_read name phrase }

-- the value of each
abbrev pub each : {W A : Type 0} → (W → Option A) → List W → Option (List A)
each read [] = Some []
each read (w ∷ ws) = read w >>= λ x. each read ws >>= λ xs. Some (x ∷ xs)

-- any number of words, whose values pass a test
abbrev pub many : {A : Type 0} → Word A → (List A → Bool) → Phrase (List A)
many item test = record {
  spell = map item.spell;
  fits = λ xs. list_all item.fits xs && test xs;
  read = λ words. each item.read words >>= λ xs. if test xs then Some xs else None;
}
