-- Words that are made of parts: a letter and a number, and lists with a byte between any two items.
use Rattle.std.specs.Prelude.{ℕ, Bool, not, ◌&&◌, ◌==◌, nat_lt, List, [], ◌∷◌, ◌++◌, length, map, Option, Some, None, if◌then◌else◌}
use Rattle.std.specs.List.{list_all, join_with_byte, slice_split}
use Rattle.std.specs.Fmt.{decimal}
use Rattle.tg_any.specs.Decimals.{number_in}
use Rattle.tg_any.specs.Fronts.{◌>>=◌, after}
use Rattle.tg_any.specs.Words.{Word, Phrase, joined}

-- the words of a line
abbrev pub words_of : List ℕ → List (List ℕ)
words_of line = slice_split (λ b. b == 32) line

-- words, each behind a space
abbrev pub spaced : List (List ℕ) → List ℕ
spaced [] = []
spaced (w ∷ ws) = 32 ∷ joined (w ∷ ws)

-- a number below a limit
abbrev pub below : ℕ → Word ℕ
below limit = record {
  spell = decimal;
  fits = λ n. nat_lt n limit;
  read = λ word. number_in word >>= λ n. if nat_lt n limit then Some n else None;
}

-- a number below a limit after a letter, as `u3`
abbrev pub lettered : List ℕ → ℕ → Word ℕ
lettered letter limit = record {
  spell = λ n. letter ++ decimal n;
  fits = λ n. nat_lt n limit;
  read = λ word. after letter word >>= λ rest. number_in rest >>= λ n. if nat_lt n limit then Some n else None;
}

-- the value of each word
abbrev pub each : {A : Type 0} → (List ℕ → Option A) → List (List ℕ) → Option (List A)
each read [] = Some []
each read (word ∷ words) = read word >>= λ x. each read words >>= λ xs. Some (x ∷ xs)

-- one or more values with a byte between any two
abbrev pub separated : {A : Type 0} → ℕ → Word A → Word (List A)
separated byte item = record {
  spell = λ xs. join_with_byte byte (map item.spell xs);
  fits = λ xs. not (length xs == 0) && list_all item.fits xs;
  read = λ word. each item.read (slice_split (λ b. b == byte) word);
}

-- the values that pass a test
abbrev pub narrowed : {A : Type 0} → (A → Bool) → Word A → Word A
narrowed test word = record {
  spell = word.spell;
  fits = λ x. word.fits x && test x;
  read = λ text. word.read text >>= λ x. if test x then Some x else None;
}

-- any number of words, whose values pass a test
abbrev pub many : {A : Type 0} → Word A → (List A → Bool) → Phrase (List A)
many item test = record {
  spell = map item.spell;
  fits = λ xs. list_all item.fits xs && test xs;
  read = λ words. each item.read words >>= λ xs. if test xs then Some xs else None;
}
