-- Which bytes stand in words.
use Rattle.std.proofs.Common.{◌≡◌, ℕ, zero, suc, ◌<◌, ◌%◌, ◌^◌, pos, negsuc, Bool, true, false, not, ◌&&◌, cond, eqb, ltb, List, [], ◌∷◌, ◌++◌, length, map, codes, Some, None, sym, refl, ◌∙◌, arith}
use Rattle.std.specs.List.{list_all}
use Rattle.std.specs.Char.{is_ascii_digit}
use Rattle.std.specs.Str.{all_ascii_digits}
use Rattle.std.specs.Fmt.{decimal}
use Rattle.std.proofs.lemmas.Bool.{ltb-true}
use Rattle.std.proofs.lemmas.Bool.Decides.{nat_tests}
use Rattle.std.proofs.lemmas.Str.Parse.{numerals_by_value, tells_all_ascii_digits}
use Rattle.std.proofs.lemmas.Fmt.{digits_decimal}
use Rattle.tg_codec.specs.Codec.{fit_many}
use Rattle.tg_codec.proofs.Laws.{and-left, and-right, both}
use Rattle.tg_kind.specs.Parts.{tag_of}
use Rattle.tg_kind.specs.Texts.{is_letter, letters}
use Rattle.tg_tree.specs.Paths.{path_byte, after_byte}
use Rattle.tg_cell.specs.Signed.{fits_i64}
use Rattle.tg_any.specs.Names.{kind_name}
use Rattle.tg_any.specs.Words.{Word, Phrase, number, index, signed, text, path, object, mark, flag, nothing, one, two, maybe, list, closed, opened, bracketed}
use Rattle.tg_trace.specs.Lines.{lettered, first, named, many}

-- a byte above the space and below 128
abbrev pub is_visible : ℕ → Bool
is_visible b = ltb 32 b && ltb b 128

-- such a byte, but no semicolon
abbrev pub is_graphic : ℕ → Bool
is_graphic b = is_visible b && not (eqb b 59)

-- each byte of each value's word is graphic
abbrev pub IsGraphic : {A : Type 0} → Word A → Type 0
IsGraphic {A} word = (x : A) → word.fits x ≡ true → list_all is_graphic (word.spell x) ≡ true

-- and of each value's words
abbrev pub are_graphic : List (List ℕ) → Bool
are_graphic words = list_all (list_all is_graphic) words

abbrev pub AreGraphic : {A : Type 0} → Phrase A → Type 0
AreGraphic {A} phrase = (x : A) → phrase.fits x ≡ true → are_graphic (phrase.spell x) ≡ true

pub all_weaker : {A : Type 0} (p q : A → Bool) → ((b : A) → p b ≡ true → q b ≡ true) → (xs : List A) → list_all p xs ≡ true → list_all q xs ≡ true
all_weaker p q weaker [] e = refl
all_weaker p q weaker (b ∷ xs) e = both _ _ (weaker b (and-left _ _ e)) (all_weaker p q weaker xs (and-right _ _ e))

pub all_append : {A : Type 0} (p : A → Bool) (xs ys : List A) → list_all p xs ≡ true → list_all p ys ≡ true → list_all p (xs ++ ys) ≡ true
all_append p [] ys e f = f
all_append p (b ∷ xs) ys e f = both _ _ (and-left _ _ e) (all_append p xs ys (and-right _ _ e) f)

-- Words.

digit_is_graphic : (b : ℕ) → is_ascii_digit b ≡ true → is_graphic b ≡ true
digit_is_graphic b e = grind (arith, nat_tests)

letter_is_graphic : (b : ℕ) → is_letter b ≡ true → is_graphic b ≡ true
letter_is_graphic b e = grind (arith, nat_tests)

digits_graphic : (ds : List ℕ) → all_ascii_digits ds ≡ true → list_all is_graphic ds ≡ true
digits_graphic [] e = refl
digits_graphic (b ∷ ds) e = both _ _ (digit_is_graphic b (and-left _ _ e)) (digits_graphic ds (and-right _ _ e))

pub decimal_graphic : (n : ℕ) → n < 2 ^ 64 → list_all is_graphic (decimal n) ≡ true
decimal_graphic n small = digits_graphic (decimal n) (digits_decimal (numerals_by_value (λ ds. all_ascii_digits ds ≡ true) tells_all_ascii_digits) n small)

pub number_graphic : IsGraphic number
number_graphic n e = decimal_graphic n (ltb-true _ _ e)

pub index_graphic : IsGraphic index
index_graphic n e = let small : n < 2 ^ 32 = ltb-true _ _ e in decimal_graphic n (omega (arith, small))

sign_graphic : (n : ℕ) → n < 2 ^ 64 → list_all is_graphic (45 ∷ decimal n) ≡ true
sign_graphic n small = decimal_graphic n small

pub signed_graphic : IsGraphic signed
signed_graphic (pos n) e = let fits = fits_i64 (pos n) e in decimal_graphic n (omega (arith, fits.sfits))
signed_graphic (negsuc n) e = let fits = fits_i64 (negsuc n) e in sign_graphic (suc n) (omega (arith, fits.sfits))

pub text_graphic : IsGraphic text
text_graphic t e = all_weaker is_letter is_graphic letter_is_graphic t (sym (letters t) ∙ and-right _ _ e)

path_byte_graphic : (s : ℕ × ℕ) (b : ℕ) → (path_byte s).fits b ≡ true → is_graphic b ≡ true
path_byte_graphic s b e = grind (arith, nat_tests)

path_body_graphic : (n : ℕ) (s : ℕ × ℕ) (bytes : List ℕ) → fit_many path_byte after_byte n s bytes ≡ true → list_all is_graphic bytes ≡ true
unfolding fit_many
path_body_graphic zero s [] e = refl
path_body_graphic zero s (b ∷ bytes) e = absurd cc
path_body_graphic (suc n) s [] e = absurd cc
path_body_graphic (suc n) s (b ∷ bytes) e = both _ _ (path_byte_graphic s b (and-left _ _ e)) (path_body_graphic n (after_byte s b) bytes (and-right _ _ e))

pub path_graphic : IsGraphic path
path_graphic t e = path_body_graphic (length t) (length t, 0) t (and-right _ _ e)

kind_graphic : (b : Bool) (x y : List ℕ) → list_all is_graphic x ≡ true → list_all is_graphic y ≡ true → list_all is_graphic (cond b x y) ≡ true
kind_graphic true x y e f = e
kind_graphic false x y e f = f

name_graphic : (tag : ℕ) → list_all is_graphic (kind_name tag) ≡ true
name_graphic tag =
    kind_graphic (eqb tag 0) _ _ refl (kind_graphic (eqb tag 1) _ _ refl (kind_graphic (eqb tag 2) _ _ refl (kind_graphic (eqb tag 3) _ _ refl
    (kind_graphic (eqb tag 4) _ _ refl (kind_graphic (eqb tag 5) _ _ refl refl)))))

pub object_graphic : IsGraphic object
object_graphic o e = all_append is_graphic (kind_name (tag_of o)) (decimal (o.0 % 2 ^ 24)) (name_graphic (tag_of o)) (decimal_graphic (o.0 % 2 ^ 24) (omega arith))

pub mark_graphic : IsGraphic mark
mark_graphic m e =
    all_append is_graphic (object.spell m.0 ++ codes "=") (decimal m.1) (all_append is_graphic (object.spell m.0) (codes "=") (object_graphic m.0 (and-left _ _ e)) refl) (decimal_graphic m.1 (ltb-true _ _ (and-right _ _ e)))

pub flag_graphic : IsGraphic flag
flag_graphic true e = refl
flag_graphic false e = refl

pub lettered_graphic : (letter : List ℕ) → list_all is_graphic letter ≡ true → IsGraphic (lettered letter)
lettered_graphic letter e n fits = let small : n < 65536 = ltb-true _ _ fits in all_append is_graphic letter (decimal n) e (decimal_graphic n (omega (arith, small)))

-- Phrases.

pub nothing_graphic : AreGraphic nothing
nothing_graphic x e = refl

pub one_graphic : {A : Type 0} (a : Word A) → IsGraphic a → AreGraphic (one a)
one_graphic a word x e = both _ _ (word x e) refl

pub two_graphic : {A B : Type 0} (a : Word A) (b : Word B) → IsGraphic a → IsGraphic b → AreGraphic (two a b)
two_graphic a b word more p e = both _ _ (word p.0 (and-left _ _ e)) (both _ _ (more p.1 (and-right _ _ e)) refl)

pub first_graphic : {A B : Type 0} (a : Word A) (b : Phrase B) → IsGraphic a → AreGraphic b → AreGraphic (first a b)
first_graphic a b word more p e = both _ _ (word p.0 (and-left _ _ e)) (more p.1 (and-right _ _ e))

pub named_graphic : {A : Type 0} (name : List ℕ) (a : Phrase A) → list_all is_graphic name ≡ true → AreGraphic a → AreGraphic (named name a)
named_graphic name a word more x e = both _ _ word (more x e)

pub maybe_graphic : {A : Type 0} (a : Word A) → IsGraphic a → AreGraphic (maybe a)
maybe_graphic a word None e = refl
maybe_graphic a word (Some x) e = both _ _ (word x e) refl

each_graphic : {A : Type 0} (a : Word A) → IsGraphic a → (xs : List A) → list_all a.fits xs ≡ true → are_graphic (map a.spell xs) ≡ true
each_graphic a word [] e = refl
each_graphic a word (x ∷ xs) e = both _ _ (word x (and-left _ _ e)) (each_graphic a word xs (and-right _ _ e))

closed_graphic : (ws : List (List ℕ)) → are_graphic ws ≡ true → are_graphic (closed ws) ≡ true
closed_graphic [] e = refl
closed_graphic (w ∷ []) e = both _ _ (all_append is_graphic w (codes "]") (and-left _ _ e) refl) refl
closed_graphic (w ∷ v ∷ ws) e = both _ _ (and-left _ _ e) (closed_graphic (v ∷ ws) (and-right _ _ e))

opened_graphic : (ws : List (List ℕ)) → are_graphic ws ≡ true → are_graphic (opened ws) ≡ true
opened_graphic [] e = refl
opened_graphic (w ∷ ws) e = e

bracketed_graphic : (ws : List (List ℕ)) → are_graphic ws ≡ true → are_graphic (bracketed ws) ≡ true
bracketed_graphic [] e = refl
bracketed_graphic (w ∷ ws) e = opened_graphic (closed (w ∷ ws)) (closed_graphic (w ∷ ws) e)

pub list_graphic : {A : Type 0} (a : Word A) → IsGraphic a → AreGraphic (list a)
list_graphic a word xs e = bracketed_graphic (map a.spell xs) (each_graphic a word xs e)

pub many_graphic : {A : Type 0} (a : Word A) (test : List A → Bool) → IsGraphic a → AreGraphic (many a test)
many_graphic a test word xs e = each_graphic a word xs (and-left _ _ e)
