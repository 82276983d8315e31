-- Spellings of objects are texts, and tell objects apart.
use Rattle.std.specs.Prelude.{◌≡◌, ℕ, zero, suc, ◌+◌, ◌/◌, ◌%◌, ◌^◌, ◌<◌, ◌≤◌, Bool, true, false, ◌==◌, List, [], ◌∷◌, ◌++◌, length, get_or, drop, Option, Some, None, IsSome, if◌then◌else◌, refl}
use Rattle.std.specs.List.{list_all}
use Rattle.std.specs.Fmt.{decimal}
use Rattle.std.proofs.Common.{arith, sym, ap, subst, ◌∙◌, cond, max, min, leb, ltb}
use Rattle.std.proofs.lemmas.Bool.{le-leb, lt-ltb}
use Rattle.std.proofs.lemmas.Bool.Decides.{nat_tests}
use Rattle.std.proofs.lemmas.Fmt.{decimal_by_steps, decimal_injective, length-decimal-le}
use Rattle.std.proofs.lemmas.List.{length-append}
use Rattle.std.proofs.lemmas.List.Folds.{list_all-append}
use Rattle.std.proofs.Math.Seq.{drop-append_seam}
use Rattle.tg_base.specs.declared.ids.Oid.{Oid}
use Rattle.tg_codec.specs.Codec.{u8, u16, fit_many}
use Rattle.tg_codec.specs.Bounds.{same_ranges}
use Rattle.tg_codec.proofs.Laws.{and-left, and-right, both}
use Rattle.tg_kind.specs.Parts.{tag_of}
use Rattle.tg_kind.specs.Texts.{IsText, text_bytes, text_format, text_of}
use Rattle.tg_dir.specs.Spellings.{is_number, index_of, kind_name, spelling}

pub oid_is : (x y : Oid) → x.0 ≡ y.0 → x ≡ y
oid_is x y e = λ i. record { 0 = e i }

-- ---- the kinds' tags

pub number_within : (o : Oid) → is_number o ≡ true → o.0 ≤ 0x06ffffff
number_within o e = grind (arith, nat_tests)

tag_within : (o : Oid) → is_number o ≡ true → tag_of o ≤ 6
tag_within o e = let le = number_within o e in omega arith

tag_cases : (P : ℕ → Type 0) → P 0 → P 1 → P 2 → P 3 → P 4 → P 5 → P 6 → (t : ℕ) → t ≤ 6 → P t
tag_cases P a b c d e f g zero le = a
tag_cases P a b c d e f g (suc zero) le = b
tag_cases P a b c d e f g (suc (suc zero)) le = c
tag_cases P a b c d e f g (suc (suc (suc zero))) le = d
tag_cases P a b c d e f g (suc (suc (suc (suc zero)))) le = e
tag_cases P a b c d e f g (suc (suc (suc (suc (suc zero))))) le = f
tag_cases P a b c d e f g (suc (suc (suc (suc (suc (suc zero)))))) le = g
tag_cases P a b c d e f g (suc (suc (suc (suc (suc (suc (suc t))))))) le = absurd (omega (arith, le))

-- ---- texts

abbrev is_letter : ℕ → Bool
is_letter b = (u8 text_bytes).fits b

letters-fit : (bytes : List ℕ) → list_all is_letter bytes ≡ true → fit_many u8 same_ranges (length bytes) text_bytes bytes ≡ true
unfolding fit_many
letters-fit [] e = refl
letters-fit (b ∷ bytes) e = both _ _ (and-left _ _ e) (letters-fit bytes (and-right _ _ e))

digit-letter : (n : ℕ) → n < 10 → list_all is_letter ((48 + n) ∷ []) ≡ true
digit-letter n lt = grind (arith, nat_tests)

decimal-letters : (n : ℕ) → n < 2 ^ 64 → list_all is_letter (decimal n) ≡ true
decimal-letters n lt =
    decimal_by_steps (λ n ds. list_all is_letter ds ≡ true) digit-letter
    (λ n ds le e. list_all-append is_letter ds ((48 + n % 10) ∷ []) ∙ both _ _ e (digit-letter (n % 10) (omega arith))) n lt

-- a kind's name
record IsName (name : List ℕ) : Type 0 where
  letters : list_all is_letter name ≡ true
  some : 1 ≤ length name
  few : length name ≤ 4

is_kind_name : (t : ℕ) → t ≤ 6 → IsName (kind_name t)
is_kind_name =
    tag_cases (λ t. IsName (kind_name t))
    (record { letters = refl; some = omega arith; few = omega arith }) (record { letters = refl; some = omega arith; few = omega arith })
    (record { letters = refl; some = omega arith; few = omega arith }) (record { letters = refl; some = omega arith; few = omega arith })
    (record { letters = refl; some = omega arith; few = omega arith }) (record { letters = refl; some = omega arith; few = omega arith })
    (record { letters = refl; some = omega arith; few = omega arith })

length-fits : (n : ℕ) → 1 ≤ n → n ≤ 4096 → (u16 ((1, 4096) ∷ [])).fits n ≡ true
length-fits n low high =
    let one : leb (max 1 n) (min 4096 n) ≡ true = le-leb _ _ (omega arith) in
    let two : ltb n (2 ^ 16) ≡ true = lt-ltb _ _ (omega arith) in
    rw (one, two) refl

pub spelling_is_text : (o : Oid) → is_number o ≡ true → IsText (spelling o)
spelling_is_text o e =
    let name = is_kind_name (tag_of o) (tag_within o e) in
    let small : index_of o < 10 ^ 8 = omega arith in
    let short : length (decimal (index_of o)) ≤ 8 = length-decimal-le 8 (index_of o) (omega arith) small (omega arith) in
    let letters : list_all is_letter (spelling o) ≡ true = list_all-append is_letter (kind_name (tag_of o)) (decimal (index_of o)) ∙ both _ _ name.letters (decimal-letters (index_of o) (omega arith)) in
    let len : length (spelling o) ≡ length (kind_name (tag_of o)) + length (decimal (index_of o)) = length-append (kind_name (tag_of o)) (decimal (index_of o)) in
    both _ _ (length-fits (length (spelling o)) (omega (arith, name.some, len)) (omega (arith, name.few, short, len))) (letters-fit (spelling o) letters)

chosen : (b : Bool) (word : List ℕ) → b ≡ true → IsSome (cond b (Some word) None)
chosen true word e = refl
chosen false word e = absurd cc

-- the spelling is taken as a text
pub spelling_taken : (o : Oid) (word : List ℕ) (text : Option (List ℕ)) → is_number o ≡ true → word ≡ spelling o → text ≡ text_of word → IsSome text
spelling_taken o word text e is taken =
    subst (λ (t : Option (List ℕ)). IsSome t) (sym (taken ∙ ap text_of is)) (chosen (text_format.fits (spelling o)) (spelling o) (spelling_is_text o e))

-- ---- the first letter tells the kind

abbrev kind_by : ℕ → ℕ
kind_by b =
    if b == 100 then 0 else (if b == 99 then 1 else (if b == 114 then 2 else (if b == 109 then 3 else (if b == 108 then 4 else (if b == 116 then 5 else 6)))))

kind_told : (rest : List ℕ) (t : ℕ) → t ≤ 6 → kind_by (get_or (kind_name t ++ rest) 0 0) ≡ t
kind_told rest = tag_cases (λ t. kind_by (get_or (kind_name t ++ rest) 0 0) ≡ t) refl refl refl refl refl refl refl

same_tag : (a b : Oid) → is_number a ≡ true → is_number b ≡ true → spelling a ≡ spelling b → tag_of a ≡ tag_of b
same_tag a b p q e =
    sym (kind_told (decimal (index_of a)) (tag_of a) (tag_within a p)) ∙ ap (λ (t : List ℕ). kind_by (get_or t 0 0)) e ∙ kind_told (decimal (index_of b)) (tag_of b) (tag_within b q)

same_rest : (name other s t : List ℕ) → name ≡ other → name ++ s ≡ other ++ t → s ≡ t
same_rest name other s t same e =
    sym (drop-append_seam name s) ∙ ap (drop (length name)) e ∙ ap (λ (n : List ℕ). drop (length n) (other ++ t)) same ∙ drop-append_seam other t

same_index : (a b : Oid) → is_number a ≡ true → is_number b ≡ true → spelling a ≡ spelling b → index_of a ≡ index_of b
same_index a b p q e =
    let rest = same_rest (kind_name (tag_of a)) (kind_name (tag_of b)) (decimal (index_of a)) (decimal (index_of b)) (ap kind_name (same_tag a b p q e)) e in
    decimal_injective (index_of a) (index_of b) (omega arith) (omega arith) rest

pub spells_one : (a b : Oid) → is_number a ≡ true → is_number b ≡ true → spelling a ≡ spelling b → a ≡ b
spells_one a b p q e =
    let tag : a.0 / 2 ^ 24 ≡ b.0 / 2 ^ 24 = same_tag a b p q e in
    let index : a.0 % 2 ^ 24 ≡ b.0 % 2 ^ 24 = same_index a b p q e in
    oid_is a b (omega arith)
