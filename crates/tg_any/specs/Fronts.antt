-- Reading a text from its front.
use Rattle.std.specs.Prelude.{List, length, take, drop, Option, Some, None, option_and_then, if◌then◌else◌, ℕ}
use Rattle.std.specs.Str.{bytes_eq}

infixl 10 ◌>>=◌
abbrev pub ◌>>=◌ : {A B : Type 0} → Option A → (A → Option B) → Option B
o >>= f = option_and_then f o

-- what follows this word at the front
unfoldable pub after : List ℕ → List ℕ → Option (List ℕ)
after word text = if bytes_eq (take (length word) text) word then Some (drop (length word) text) else None

-- what is read of the rest, or else the other
abbrev pub or_else : {A : Type 0} → Option (List ℕ) → (List ℕ → Option A) → Option A → Option A
or_else None f other = other
or_else (Some rest) f other = f rest
