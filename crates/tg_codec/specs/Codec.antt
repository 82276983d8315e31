-- A format of values: how each is spelled, which have a spelling, and how they are read. Formats are put
-- together by the words below, and what is read is then what is spelled, by one law for each word.
use Rattle.std.specs.Prelude.{Err, if◌then◌else◌, ℕ, zero, suc, ◌^◌, Bool, true, false, ◌&&◌, ◌==◌, nat_lt, List, [], ◌∷◌, ◌++◌, length, Option, Some, None, Ok}
use Rattle.std.specs.Int.{w16, w32, w64, to_be_bytes}
use Rattle.tg_codec.specs.Reading.{Read, ◌>>=◌, meets, u8_at, u16_at, u32_at, u64_at, raw_at, fixed_at}

pub record Codec (A : Type 0) : Type 0 where
  pub spell : A → List ℕ
  pub fits : A → Bool
  pub read : List ℕ → Read A

-- numbers of one, two, four and eight bytes from some ranges
abbrev pub u8 : List (ℕ × ℕ) → Codec ℕ
u8 allowed = record { spell = λ n. n ∷ []; fits = λ n. meets allowed n n && nat_lt n 256; read = u8_at allowed }

abbrev pub u16 : List (ℕ × ℕ) → Codec ℕ
u16 allowed = record { spell = to_be_bytes w16; fits = λ n. meets allowed n n && nat_lt n (2 ^ 16); read = u16_at allowed }

abbrev pub u32 : List (ℕ × ℕ) → Codec ℕ
u32 allowed = record { spell = to_be_bytes w32; fits = λ n. meets allowed n n && nat_lt n (2 ^ 32); read = u32_at allowed }

abbrev pub u64 : List (ℕ × ℕ) → Codec ℕ
u64 allowed = record { spell = to_be_bytes w64; fits = λ n. meets allowed n n && nat_lt n (2 ^ 64); read = u64_at allowed }

-- so many bytes
abbrev pub raw : ℕ → Codec (List ℕ)
raw n = record { spell = λ bytes. bytes; fits = λ bytes. length bytes == n; read = raw_at n }

-- these bytes and no others
abbrev pub fixed : List ℕ → Codec (Unit {0})
fixed text = record { spell = λ _. text; fits = λ _. true; read = fixed_at text }

-- nothing at all
abbrev pub nothing : Codec (Unit {0})
nothing = record { spell = λ _. []; fits = λ _. true; read = λ bytes. Ok (tt, bytes) }

-- one value and then another, whose format may depend on the first
abbrev pub dep : {A B : Type 0} → Codec A → (A → Codec B) → Codec (A × B)
dep a b = record {
  spell = λ p. a.spell p.0 ++ (b p.0).spell p.1;
  fits = λ p. a.fits p.0 && (b p.0).fits p.1;
  read = λ bytes. a.read bytes >>= λ x. (b x.0).read x.1 >>= λ y. Ok ((x.0, y.0), y.1);
}

-- the same values in another shape
abbrev pub via : {A B : Type 0} → (A → B) → (B → A) → Codec A → Codec B
via to from c = record {
  spell = λ y. c.spell (from y);
  fits = λ y. c.fits (from y);
  read = λ bytes. c.read bytes >>= λ x. Ok (to x.0, x.1);
}

-- some values of a larger type, in another shape
abbrev pub narrow : {A B : Type 0} → (B → Bool) → (A → B) → (B → A) → Codec A → Codec B
narrow test to from c = record {
  spell = λ y. c.spell (from y);
  fits = λ y. test y && c.fits (from y);
  read = λ bytes. c.read bytes >>= λ x. Ok (to x.0, x.1);
}

-- so many values, each of a format that depends on those before it by a state
unfoldable pub read_many : {S X : Type 0} → (S → Codec X) → (S → X → S) → ℕ → S → List ℕ → Read (List X)
read_many item next zero s bytes = Ok ([], bytes)
read_many item next (suc n) s bytes = (item s).read bytes >>= λ x. read_many item next n (next s x.0) x.1 >>= λ xs. Ok (x.0 ∷ xs.0, xs.1)

unfoldable pub spell_many : {S X : Type 0} → (S → Codec X) → (S → X → S) → S → List X → List ℕ
spell_many item next s [] = []
spell_many item next s (x ∷ xs) = (item s).spell x ++ spell_many item next (next s x) xs

unfoldable pub fit_many : {S X : Type 0} → (S → Codec X) → (S → X → S) → ℕ → S → List X → Bool
fit_many item next zero s [] = true
fit_many item next zero s (x ∷ xs) = false
fit_many item next (suc n) s [] = false
fit_many item next (suc n) s (x ∷ xs) = (item s).fits x && fit_many item next n (next s x) xs

abbrev pub many : {S X : Type 0} → (S → Codec X) → (S → X → S) → ℕ → S → Codec (List X)
many item next n s = record { spell = spell_many item next s; fits = fit_many item next n s; read = read_many item next n s }

-- a list behind its count
abbrev pub behind : {X : Type 0} → Codec ℕ → (ℕ → Codec (List X)) → Codec (List X)
behind count body = via (λ p. p.1) (λ xs. (length xs, xs)) (dep count body)

-- a list behind its count in one byte
abbrev pub counted : {X : Type 0} → List (ℕ × ℕ) → (ℕ → Codec (List X)) → Codec (List X)
counted counts body = behind (u8 counts) body

-- bytes behind their count in two bytes
abbrev pub text : List (ℕ × ℕ) → Codec (List ℕ)
text lengths = behind (u16 lengths) raw

abbrev pub from_option : {P A : Type 0} → A → (P → A) → Option P → A
from_option none some None = none
from_option none some (Some p) = some p

-- the values of one variant
abbrev pub variant : {P X : Type 0} → (P → X) → (X → Option P) → Codec P → Codec X
variant make back c = record {
  spell = λ x. from_option [] c.spell (back x);
  fits = λ x. from_option false c.fits (back x);
  read = λ bytes. c.read bytes >>= λ p. Ok (make p.0, p.1);
}

-- a tag of one byte, and what it stands for
abbrev pub tagged : {X : Type 0} → List (ℕ × ℕ) → (X → ℕ) → (ℕ → Codec X) → Codec X
tagged tags tag body = via (λ p. p.1) (λ x. (tag x, x)) (dep (u8 tags) body)

-- what was read, where the test passes, and else nothing: the next lawful field began n bytes before the end
abbrev pub tested : {A : Type 0} → (A → Bool) → ℕ → Read A → Read A
tested test n (Ok x) = if test x.0 then Ok x else Err n
tested test n (Err left) = Err left

-- A value that passes a test, which is looked at when the value is whole: one that fails is refused at its
-- first byte.
abbrev pub only_if : {A : Type 0} → (A → Bool) → Codec A → Codec A
only_if test c = record { spell = c.spell; fits = λ x. c.fits x && test x; read = λ bytes. tested test (length bytes) (c.read bytes) }

-- no value at all
abbrev pub never : {X : Type 0} → Codec X
never = record { spell = λ _. []; fits = λ _. false; read = λ bytes. Err (length bytes) }

-- the format that a table has for a tag
abbrev pub from_table : {X : Type 0} → List (ℕ × Codec X) → ℕ → Codec X
from_table [] t = never
from_table (e ∷ es) t = if t == e.0 then e.1 else from_table es t
