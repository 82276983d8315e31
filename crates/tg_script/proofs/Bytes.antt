-- Which bytes stand in words.
use Rattle.std.proofs.Common.{◌≡◌, ℕ, ◌<◌, ◌≤◌, ◌^◌, Bool, true, false, not, ◌&&◌, eqb, ltb, List, [], ◌∷◌, ◌++◌, length, map, sym, refl, ap, ◌∙◌, arith}
use Rattle.std.specs.List.{list_all, join_with_byte}
use Rattle.std.specs.Char.{is_ascii_digit}
use Rattle.std.specs.Str.{all_ascii_digits}
use Rattle.std.specs.Fmt.{decimal}
use Rattle.std.proofs.lemmas.Bool.{ltb-true}
use Rattle.std.proofs.lemmas.Bool.Decides.{nat_tests}
use Rattle.std.proofs.lemmas.Str.Parse.{numerals_by_value, tells_all_ascii_digits}
use Rattle.std.proofs.lemmas.Fmt.{digits_decimal}
use Rattle.tg_codec.proofs.Laws.{and-left, and-right, both}
use Rattle.tg_any.specs.Words.{Word}
use Rattle.tg_script.specs.Parts.{lettered, separated, narrowed}

-- each byte of each value's word passes a test
abbrev pub Passes : {A : Type 0} → (ℕ → Bool) → Word A → Type 0
Passes {A} p word = (x : A) → word.fits x ≡ true → list_all p (word.spell x) ≡ true

-- a byte above the space and below 128
abbrev pub is_graphic : ℕ → Bool
is_graphic b = ltb 32 b && ltb b 128

-- another byte than this one
abbrev pub is_not : ℕ → ℕ → Bool
is_not byte b = not (eqb b byte)

pub graphic_is_no_space : (b : ℕ) → is_graphic b ≡ true → is_not 32 b ≡ true
graphic_is_no_space b e = grind (arith, nat_tests)

pub digit_is_graphic : (b : ℕ) → is_ascii_digit b ≡ true → is_graphic b ≡ true
digit_is_graphic b e = grind (arith, nat_tests)

pub digit_is_not : (byte b : ℕ) → byte < 48 → is_ascii_digit b ≡ true → is_not byte b ≡ true
digit_is_not byte b small e = grind (arith, nat_tests)

pub all_weaker : (p q : ℕ → Bool) → ((b : ℕ) → p b ≡ true → q b ≡ true) → (text : List ℕ) → list_all p text ≡ true → list_all q text ≡ true
all_weaker p q weaker [] e = refl
all_weaker p q weaker (b ∷ text) e = both _ _ (weaker b (and-left _ _ e)) (all_weaker p q weaker text (and-right _ _ e))

pub all_append : (p : ℕ → Bool) (x y : List ℕ) → list_all p x ≡ true → list_all p y ≡ true → list_all p (x ++ y) ≡ true
all_append p [] y e f = f
all_append p (b ∷ x) y e f = both _ _ (and-left _ _ e) (all_append p x y (and-right _ _ e) f)

digits_pass : (p : ℕ → Bool) → ((b : ℕ) → is_ascii_digit b ≡ true → p b ≡ true) → (text : List ℕ) → all_ascii_digits text ≡ true → list_all p text ≡ true
digits_pass p digit [] e = refl
digits_pass p digit (b ∷ text) e = both _ _ (digit b (and-left _ _ e)) (digits_pass p digit text (and-right _ _ e))

pub decimal_passes : (p : ℕ → Bool) → ((b : ℕ) → is_ascii_digit b ≡ true → p b ≡ true) → (n : ℕ) → n < 2 ^ 64 → list_all p (decimal n) ≡ true
decimal_passes p digit n small =
    digits_pass p digit (decimal n) (digits_decimal (numerals_by_value (λ ds. all_ascii_digits ds ≡ true) tells_all_ascii_digits) n small)

pub lettered_passes : (p : ℕ → Bool) (letter : List ℕ) (limit : ℕ) → limit ≤ 2 ^ 64 → list_all p letter ≡ true → ((b : ℕ) → is_ascii_digit b ≡ true → p b ≡ true) → Passes p (lettered letter limit)
lettered_passes p letter limit most e digit n fits = let small : n < limit = ltb-true _ _ fits in all_append p letter (decimal n) e (decimal_passes p digit n (omega (arith, small, most)))

pub joined_passes : (p : ℕ → Bool) (byte : ℕ) → p byte ≡ true → (parts : List (List ℕ)) → list_all (list_all p) parts ≡ true → list_all p (join_with_byte byte parts) ≡ true
joined_passes p byte here [] e = refl
joined_passes p byte here (x ∷ []) e = and-left _ _ e
joined_passes p byte here (x ∷ y ∷ parts) e = all_append p x (byte ∷ join_with_byte byte (y ∷ parts)) (and-left _ _ e) (both _ _ here (joined_passes p byte here (y ∷ parts) (and-right _ _ e)))

pub each_passes : {A : Type 0} (p : ℕ → Bool) (a : Word A) → Passes p a → (xs : List A) → list_all a.fits xs ≡ true → list_all (list_all p) (map a.spell xs) ≡ true
each_passes p a item [] e = refl
each_passes p a item (x ∷ xs) e = both _ _ (item x (and-left _ _ e)) (each_passes p a item xs (and-right _ _ e))

pub separated_passes : {A : Type 0} (p : ℕ → Bool) (byte : ℕ) (a : Word A) → p byte ≡ true → Passes p a → Passes p (separated byte a)
separated_passes p byte a here item xs fits = joined_passes p byte here (map a.spell xs) (each_passes p a item xs (and-right _ _ fits))

pub narrowed_passes : {A : Type 0} (p : ℕ → Bool) (test : A → Bool) (a : Word A) → Passes p a → Passes p (narrowed test a)
narrowed_passes p test a item x fits = item x (and-left _ _ fits)
