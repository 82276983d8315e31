-- How values are written as words.
use Rattle.std.specs.Prelude.{ℕ, ◌-◌, ◌^◌, ℤ, Bool, true, false, ◌&&◌, nat_lt, List, [], ◌∷◌, ◌++◌, length, take, drop, map, codes, Option, Some, None, option_map, if◌then◌else◌}
use Rattle.std.specs.Borrow.{Bor}
use Rattle.std.specs.List.{list_all}
use Rattle.std.specs.Str.{bytes_eq}
use Rattle.std.specs.Fmt.{decimal, signed_decimal}
use Rattle.tg_base.specs.declared.ids.Oid.{Oid}
use Rattle.tg_kind.specs.Texts.{text_format, text_of}
use Rattle.tg_tree.specs.Paths.{path_format, path_of}
use Rattle.tg_cell.specs.Signed.{in_i64}
use Rattle.tg_any.specs.Decimals.{number_in, signed_in}
use Rattle.tg_any.specs.Names.{is_named, object_word, object_in, mark_word, mark_in}
use Rattle.tg_any.specs.Fronts.{◌>>=◌, after}

-- the words that slices of texts are
abbrev pub texts : List (Bor (List ℕ)) → List (List ℕ)
texts words = map (λ (w : Bor (List ℕ)). w.now) words

-- A kind of word: each value's, which values have one, and the value that is read of one.
pub record Word (A : Type 0) : Type 0 where
  pub spell : A → List ℕ
  pub fits : A → Bool
  pub read : List ℕ → Option A

-- numbers of 64 and of 32 bits, and signed ones
abbrev pub number : Word ℕ
number = record { spell = decimal; fits = λ n. nat_lt n (2 ^ 64); read = number_in }

abbrev pub index : Word ℕ
index = record { spell = decimal; fits = λ n. nat_lt n (2 ^ 32); read = λ word. number_in word >>= λ n. if nat_lt n (2 ^ 32) then Some n else None }

abbrev pub signed : Word ℤ
signed = record { spell = signed_decimal; fits = in_i64; read = signed_in }

abbrev pub text : Word (List ℕ)
text = record { spell = λ t. t; fits = text_format.fits; read = text_of }

abbrev pub path : Word (List ℕ)
path = record { spell = λ p. p; fits = path_format.fits; read = path_of }

abbrev pub object : Word Oid
object = record { spell = object_word; fits = is_named; read = object_in }

-- an object and its mark
abbrev pub mark : Word (Oid × ℕ)
mark = record { spell = mark_word; fits = λ m. is_named m.0 && nat_lt m.1 (2 ^ 64); read = mark_in }

-- `yes` or `no`
abbrev pub flag : Word Bool
flag = record {
  spell = λ b. if b then codes "yes" else codes "no";
  fits = λ b. true;
  read = λ word. if bytes_eq word (codes "yes") then Some true else (if bytes_eq word (codes "no") then Some false else None);
}

-- A kind of several words.
pub record Phrase (A : Type 0) : Type 0 where
  pub spell : A → List (List ℕ)
  pub fits : A → Bool
  pub read : List (List ℕ) → Option A

abbrev pub none_read : List (List ℕ) → Option (Unit {0})
none_read [] = Some tt
none_read (w ∷ ws) = None

-- no word
abbrev pub nothing : Phrase (Unit {0})
nothing = record { spell = λ _. []; fits = λ _. true; read = none_read }

abbrev pub one_read : {A : Type 0} → Word A → List (List ℕ) → Option A
one_read a [] = None
one_read a (w ∷ []) = a.read w
one_read a (w ∷ v ∷ ws) = None

abbrev pub one : {A : Type 0} → Word A → Phrase A
one a = record { spell = λ x. a.spell x ∷ []; fits = a.fits; read = one_read a }

abbrev pub two_read : {A B : Type 0} → Word A → Word B → List (List ℕ) → Option (A × B)
two_read a b [] = None
two_read a b (w ∷ ws) = a.read w >>= λ x. one_read b ws >>= λ y. Some (x, y)

abbrev pub two : {A B : Type 0} → Word A → Word B → Phrase (A × B)
two a b = record { spell = λ p. a.spell p.0 ∷ b.spell p.1 ∷ []; fits = λ p. a.fits p.0 && b.fits p.1; read = two_read a b }

-- a value after its verb, or else another
abbrev pub verb : {A B : Type 0} → List ℕ → Phrase A → (A → B) → List ℕ → List (List ℕ) → Option B → Option B
verb name phrase make word fields other = if bytes_eq word name then option_map make (phrase.read fields) else other

-- `some` and a word, or `none`
abbrev pub maybe_words : {A : Type 0} → Word A → Option A → List (List ℕ)
maybe_words a None = codes "none" ∷ []
maybe_words a (Some x) = codes "some" ∷ a.spell x ∷ []

abbrev pub maybe_fits : {A : Type 0} → Word A → Option A → Bool
maybe_fits a None = true
maybe_fits a (Some x) = a.fits x

abbrev pub maybe_read : {A : Type 0} → Word A → List (List ℕ) → Option (Option A)
maybe_read a [] = None
maybe_read a (w ∷ ws) = verb (codes "some") (one a) (λ x. Some x) w ws (verb (codes "none") nothing (λ _. None) w ws None)

abbrev pub maybe : {A : Type 0} → Word A → Phrase (Option A)
maybe a = record { spell = maybe_words a; fits = maybe_fits a; read = maybe_read a }

-- the words with a bracket behind the last
abbrev pub closed : List (List ℕ) → List (List ℕ)
closed [] = []
closed (w ∷ []) = (w ++ codes "]") ∷ []
closed (w ∷ ws) = w ∷ closed ws

-- the words with a bracket before the first
abbrev pub opened : List (List ℕ) → List (List ℕ)
opened [] = []
opened (w ∷ ws) = (codes "[" ++ w) ∷ ws

-- `[a b c]`, and `[]` for none
abbrev pub bracketed : List (List ℕ) → List (List ℕ)
bracketed [] = codes "[]" ∷ []
bracketed (w ∷ ws) = opened (closed (w ∷ ws))

-- what stands before this word at the end
unfoldable pub before : List ℕ → List ℕ → Option (List ℕ)
before word text = if bytes_eq (drop (length text - length word) text) word then Some (take (length text - length word) text) else None

-- items, of which the first word is at hand, and the last is closed
abbrev pub items_read : {A : Type 0} → Word A → List ℕ → List (List ℕ) → Option (List A)
items_read a w [] = before (codes "]") w >>= λ t. a.read t >>= λ x. Some (x ∷ [])
items_read a w (v ∷ ws) = a.read w >>= λ x. items_read a v ws >>= λ xs. Some (x ∷ xs)

abbrev pub bracketed_read : {A : Type 0} → Word A → List (List ℕ) → Option (List A)
bracketed_read a [] = None
bracketed_read a (w ∷ ws) = after (codes "[") w >>= λ first. items_read a first ws

abbrev pub is_empty_list : List (List ℕ) → Bool
is_empty_list [] = false
is_empty_list (w ∷ []) = bytes_eq w (codes "[]")
is_empty_list (w ∷ v ∷ ws) = false

abbrev pub list_read : {A : Type 0} → Word A → List (List ℕ) → Option (List A)
list_read a ws = if is_empty_list ws then Some [] else bracketed_read a ws

-- a list in brackets
abbrev pub list : {A : Type 0} → Word A → Phrase (List A)
list a = record { spell = λ xs. bracketed (map a.spell xs); fits = λ xs. list_all a.fits xs; read = list_read a }

-- the words with a space between any two
abbrev pub joined : List (List ℕ) → List ℕ
joined [] = []
joined (w ∷ []) = w
joined (w ∷ ws) = w ++ 32 ∷ joined ws
