-- Texts: from 1 to 4,096 of the letters, the digits, the underscore, the full stop and the hyphen.
use Rattle.std.specs.Prelude.{◌≡◌, ℕ, zero, suc, ◌<◌, ◌≤◌, Bool, true, ◌&&◌, nat_lt, nat_le, refl, List, [], ◌∷◌, length, Option, Some, None, Ok, if◌then◌else◌}
use Rattle.std.specs.List.{list_all}
use Rattle.std.specs.Str.{IsAscii, IsUtf8}
use Rattle.std.proofs.Common.{arith, sym, subst, ap, ◌∙◌}
use Rattle.std.proofs.lemmas.Bool.Decides.{nat_tests}
use Rattle.std.proofs.lemmas.Str.{IsUtf8-from_ascii}
use Rattle.tg_codec.specs.Codec.{Codec, u16, behind, fit_many}
use Rattle.tg_codec.specs.Bounds.{raw_in, same_ranges}
use Rattle.tg_codec.proofs.Laws.{IsCodec, IsBytes, and-left, and-right, both, length-fit_many}
use Rattle.tg_codec.proofs.Bounds.{raw_in_law}
use Rattle.tg_codec.proofs.Widths.{u16_law}
use Rattle.tg_codec.proofs.Shapes.{behind_law}
use Rattle.tg_codec.specs.Codec as codec
use Rattle.tg_base.specs.declared.marks.Part.TheVariants.{Text}
use Rattle.tg_base.specs.Parts.{is_part}

-- A-Z, a-z, 0-9, _ . -
abbrev pub text_bytes : List (ℕ × ℕ)
text_bytes = (65, 90) ∷ (97, 122) ∷ (48, 57) ∷ (95, 95) ∷ (46, 46) ∷ (45, 45) ∷ []

-- a text behind its length in two bytes
abbrev pub text_format : Codec (List ℕ)
text_format = behind (u16 ((1, 4096) ∷ [])) (raw_in text_bytes)

abbrev pub IsText : List ℕ → Type 0
IsText bytes = text_format.fits bytes ≡ true

-- the text that a word is
abbrev pub text_of : List ℕ → Option (List ℕ)
text_of word = if text_format.fits word then Some word else None

-- the byte may stand in a text
abbrev pub is_letter : ℕ → Bool
is_letter b = (codec.u8 text_bytes).fits b

-- the count of letters fits, and each is one
pub letters : (word : List ℕ) → fit_many codec.u8 same_ranges (length word) text_bytes word ≡ list_all is_letter word
unfolding fit_many
letters [] = refl
letters (b ∷ word) = ap (λ all. is_letter b && all) (letters word)

counted_letters : (n : ℕ) (all : Bool) → 1 ≤ n → n ≤ 4096 → all ≡ ((u16 ((1, 4096) ∷ [])).fits n && all)
counted_letters n all some few = grind (arith, nat_tests)

pub fits_letters : (word : List ℕ) → 1 ≤ length word → length word ≤ 4096 → list_all is_letter word ≡ text_format.fits word
fits_letters word some few = counted_letters (length word) (list_all is_letter word) some few ∙ ap (λ all. (u16 ((1, 4096) ∷ [])).fits (length word) && all) (sym (letters word))

letter_counts : (n : ℕ) → (u16 ((1, 4096) ∷ [])).fits n ≡ true → (nat_le 1 n ≡ true) × (nat_le n 4096 ≡ true)
letter_counts n e = grind (arith, nat_tests)

letters_are_bytes : (word : List ℕ) → list_all is_letter word ≡ true → list_all (λ b. nat_lt b 256) word ≡ true
letters_are_bytes [] e = refl
letters_are_bytes (b ∷ word) e = both _ _ (and-right _ _ (and-left _ _ e)) (letters_are_bytes word (and-right _ _ e))

-- a text names a part
pub text_is_part : (t : List ℕ) → IsText t → is_part (Text t) ≡ true
text_is_part t e =
    let few = letter_counts (length t) (and-left _ _ e) in
    both _ _ (both _ _ few.0 few.1) (letters_are_bytes t (sym (letters t) ∙ and-right _ _ e))

pub text_law : IsCodec text_format
text_law = behind_law (u16_law ((1, 4096) ∷ [])) (raw_in_law text_bytes) (λ n xs e. length-fit_many codec.u8 same_ranges n text_bytes xs e)

byte_is_ascii : (b : ℕ) → (codec.u8 text_bytes).fits b ≡ true → b < 128
byte_is_ascii b e = grind (arith, nat_tests)

is_ascii : (n : ℕ) (bytes : List ℕ) → fit_many codec.u8 same_ranges n text_bytes bytes ≡ true → IsAscii bytes
unfolding fit_many
is_ascii zero [] e i = omega arith
is_ascii zero (b ∷ bytes) e i = absurd cc
is_ascii (suc n) [] e i = absurd cc
is_ascii (suc n) (b ∷ bytes) e zero = byte_is_ascii b (and-left _ _ e)
is_ascii (suc n) (b ∷ bytes) e (suc i) = is_ascii n bytes (and-right _ _ e) i

-- what was read for a text
pub record WasText (text : List ℕ) : Type 0 where
  pub fits : IsText text
  pub utf8 : IsUtf8 text

pub was_text : (bytes : List ℕ) (len : ℕ) (rest text after : List ℕ) → IsBytes bytes → (u16 ((1, 4096) ∷ [])).read bytes ≡ Ok (len, rest) → (raw_in text_bytes len).read rest ≡ Ok (text, after) → WasText text
was_text bytes len rest text after fits e f =
    let t = (u16_law ((1, 4096) ∷ [])).exact.takes bytes len rest fits e in
    let u = (raw_in_law text_bytes len).exact.takes rest text after t.0.rest_fits f in
    let same : length text ≡ len = length-fit_many codec.u8 same_ranges len text_bytes text u.1 in
    let front : (u16 ((1, 4096) ∷ [])).fits (length text) ≡ true = subst (λ n. (u16 ((1, 4096) ∷ [])).fits n ≡ true) (sym same) t.1 in
    let body : (raw_in text_bytes (length text)).fits text ≡ true = subst (λ n. (raw_in text_bytes n).fits text ≡ true) (sym same) u.1 in
    record { fits = both _ _ front body; utf8 = IsUtf8-from_ascii text (is_ascii len text u.1) }
