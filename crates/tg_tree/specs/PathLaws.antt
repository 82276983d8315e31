-- The laws of paths.
use Rattle.std.specs.Prelude.{◌≡◌, ℕ, zero, suc, ◌-◌, ◌+◌, max, min, nat_le, nat_lt, ◌<◌, ◌≤◌, Bool, true, false, ◌||◌, List, [], ◌∷◌, length, drop, refl, Ok}
use Rattle.std.specs.List.{list_all}
use Rattle.std.specs.Str.{IsAscii, IsUtf8}
use Rattle.std.proofs.Common.{get_or-drop, arith, ap, sym, subst, cond, eqb}
use Rattle.std.proofs.lemmas.Bool.{le-leb, lt-ltb, eqb-true}
use Rattle.std.proofs.lemmas.Bool.Decides.{nat_tests}
use Rattle.std.proofs.lemmas.List.{length-drop}
use Rattle.std.proofs.lemmas.Str.{IsUtf8-from_ascii}
use Rattle.tg_base.specs.declared.marks.Part.TheVariants as parts
use Rattle.tg_codec.specs.Codec.{u8, u16, many, spell_many, fit_many}
use Rattle.tg_codec.specs.Bounds.{same_ranges}
use Rattle.tg_codec.proofs.Laws.{IsBytes, IsCodec, and-left, and-right, both, many_law, alike_law, length-fit_many}
use Rattle.tg_codec.proofs.Shapes.{behind_law, met_within}
use Rattle.tg_codec.proofs.Widths.{u8_law, u16_law}
use Rattle.tg_base.specs.Parts.{is_part}
use Rattle.tg_kind.specs.Texts.{text_bytes, IsText}
use Rattle.tg_tree.specs.Paths.{same, root, next_bytes, path_byte, after_byte, path_body, path_format, IsPath, has_slash, last_slash, last_name}

-- single bytes one after the other are spelled as they are
bytes-spell : {S : Type 0} (allowed : S → List (ℕ × ℕ)) (next : S → ℕ → S) (s : S) (bytes : List ℕ) → spell_many (λ t. u8 (allowed t)) next s bytes ≡ bytes
unfolding spell_many
bytes-spell allowed next s [] = refl
bytes-spell allowed next s (b ∷ bytes) = ap (λ (t : List ℕ). b ∷ t) (bytes-spell allowed next (next s b) bytes)

pub path_body_law : (n : ℕ) → IsCodec (path_body n)
path_body_law n = alike_law (many path_byte after_byte n (n, 0)) (λ bytes. bytes) (bytes-spell next_bytes after_byte (n, 0)) (many_law path_byte after_byte (λ s. u8_law _) n (n, 0))

pub path_law : IsCodec path_format
path_law = behind_law (u16_law ((1, 4096) ∷ [])) path_body_law (λ n xs e. length-fit_many path_byte after_byte n (n, 0) xs e)

-- the bytes of a path, as they are read one by one
abbrev pub Fit : ℕ → List ℕ → Type 0
Fit before bytes = fit_many path_byte after_byte (length bytes) (length bytes, before) bytes ≡ true

pub path_fits : (p : List ℕ) → IsPath p → Fit 0 p
path_fits p e = and-right _ _ e

pub path_length : (p : List ℕ) → IsPath p → (1 ≤ length p) × (length p ≤ 4096)
path_length p e = met_within 1 4096 (length p) (and-left _ _ (and-left _ _ e))

-- what fits goes on
rest_fits : (before b : ℕ) (bytes : List ℕ) → Fit before (b ∷ bytes) → Fit b bytes
unfolding fit_many
rest_fits before b bytes e =
    let one_less : suc (length bytes) - 1 ≡ length bytes = omega arith in
    subst (λ k. fit_many path_byte after_byte (length bytes) (k, b) bytes ≡ true) one_less (and-right _ _ e)

first_fits : (before b : ℕ) (bytes : List ℕ) → Fit before (b ∷ bytes) → (u8 (next_bytes (suc (length bytes), before))).fits b ≡ true
unfolding fit_many
first_fits before b bytes e = and-left _ _ e

slash_is : (b : ℕ) → (u8 ((47, 47) ∷ [])).fits b ≡ true → b ≡ 47
slash_is b e = let t = met_within 47 47 b (and-left _ _ e) in omega (arith, t.0, t.1)

-- a path begins with a slash
pub path_starts : (p : List ℕ) → IsPath p → (rest : List ℕ) × (p ≡ 47 ∷ rest)
path_starts [] e = let t = path_length [] e in absurd (omega (arith, t.0))
path_starts (b ∷ bytes) e = (bytes, ap (λ k. k ∷ bytes) (slash_is b (first_fits 0 b bytes (path_fits (b ∷ bytes) e))))

-- ---- bytes below 128

choice_ascii : (first name : Bool) (b : ℕ) → (u8 (cond first ((47, 47) ∷ []) (cond name text_bytes ((47, 47) ∷ text_bytes)))).fits b ≡ true → b < 128
choice_ascii true name b e = grind (arith, nat_tests)
choice_ascii false true b e = grind (arith, nat_tests)
choice_ascii false false b e = grind (arith, nat_tests)

is_ascii : (before : ℕ) (bytes : List ℕ) → Fit before bytes → IsAscii bytes
is_ascii before [] e i = omega arith
is_ascii before (b ∷ bytes) e zero = choice_ascii (eqb before 0) (eqb before 47 || eqb (suc (length bytes)) 1) b (first_fits before b bytes e)
is_ascii before (b ∷ bytes) e (suc i) = is_ascii b bytes (rest_fits before b bytes e) i

pub path_utf8 : (p : List ℕ) → IsPath p → IsUtf8 p
path_utf8 p e = IsUtf8-from_ascii p (is_ascii 0 p (path_fits p e))

-- a path names a part
bytes_fit : (before : ℕ) (bytes : List ℕ) → Fit before bytes → list_all (λ b. nat_lt b 256) bytes ≡ true
bytes_fit before [] e = refl
bytes_fit before (b ∷ bytes) e =
    let low : b < 128 = choice_ascii (eqb before 0) (eqb before 47 || eqb (suc (length bytes)) 1) b (first_fits before b bytes e) in
    both _ _ (lt-ltb b 256 (omega (arith, low))) (bytes_fit b bytes (rest_fits before b bytes e))

pub path_is_part : (p : List ℕ) → IsPath p → is_part (parts.Text p) ≡ true
path_is_part p e =
    let t = path_length p e in
    both _ _ (both _ _ (le-leb 1 (length p) t.0) (le-leb (length p) 4096 t.1)) (bytes_fit 0 p (path_fits p e))

-- ---- names

choice_name : (first name : Bool) (b : ℕ) → first ≡ false → eqb b 47 ≡ false → (u8 (cond first ((47, 47) ∷ []) (cond name text_bytes ((47, 47) ∷ text_bytes)))).fits b ≡ true → (u8 text_bytes).fits b ≡ true
choice_name true name b f s e = absurd cc
choice_name false true b f s e = e
choice_name false false b f s e = grind (arith, nat_tests)

choice_not_zero : (first name : Bool) (b : ℕ) → (u8 (cond first ((47, 47) ∷ []) (cond name text_bytes ((47, 47) ∷ text_bytes)))).fits b ≡ true → eqb b 0 ≡ false
choice_not_zero true name b e = grind (arith, nat_tests)
choice_not_zero false true b e = grind (arith, nat_tests)
choice_not_zero false false b e = grind (arith, nat_tests)

or-left-false : (a b : Bool) → (a || b) ≡ false → a ≡ false
or-left-false true b e = absurd cc
or-left-false false b e = refl

or-right-false : (a b : Bool) → (a || b) ≡ false → b ≡ false
or-right-false true b e = absurd cc
or-right-false false b e = e

not_zero : (before b : ℕ) (bytes : List ℕ) → Fit before (b ∷ bytes) → eqb b 0 ≡ false
not_zero before b bytes e = choice_not_zero (eqb before 0) (eqb before 47 || eqb (suc (length bytes)) 1) b (first_fits before b bytes e)

-- without a slash, what follows a byte of a path is a name's
name_fits : (before : ℕ) (bytes : List ℕ) → eqb before 0 ≡ false → Fit before bytes → has_slash bytes ≡ false → fit_many u8 same_ranges (length bytes) text_bytes bytes ≡ true
unfolding fit_many
name_fits before [] z e h = refl
name_fits before (b ∷ bytes) z e h =
    both _ _ (choice_name (eqb before 0) (eqb before 47 || eqb (suc (length bytes)) 1) b z (or-left-false _ _ h) (first_fits before b bytes e))
    (name_fits b bytes (not_zero before b bytes e) (rest_fits before b bytes e) (or-right-false _ _ h))

-- what stands behind the last slash of a path other than the root
record IsName (name : List ℕ) : Type 0 where
  some : 1 ≤ length name
  fits : fit_many u8 same_ranges (length name) text_bytes name ≡ true

or-right : (a b : Bool) → (a || b) ≡ true → b ≡ false → a ≡ true
or-right true b e f = refl
or-right false b e f = absurd cc

ends_no_slash : (first name : Bool) → first ≡ false → name ≡ true → (u8 (cond first ((47, 47) ∷ []) (cond name text_bytes ((47, 47) ∷ text_bytes)))).fits 47 ≡ true → ⊥
ends_no_slash true name f n e = absurd cc
ends_no_slash false true f n e = absurd cc
ends_no_slash false false f n e = absurd cc

or-true : (a : Bool) → (a || true) ≡ true
or-true true = refl
or-true false = refl

behind_slash : (before b : ℕ) (bytes : List ℕ) → eqb before 0 ≡ false → Fit before (b ∷ bytes) → b ≡ 47 → 1 ≤ length bytes
behind_slash before b [] z e s = absurd (ends_no_slash (eqb before 0) (eqb before 47 || eqb 1 1) z (or-true (eqb before 47)) (subst (λ k. (u8 (next_bytes (1, before))).fits k ≡ true) s (first_fits before b [] e)))
behind_slash before b (c ∷ bytes) z e s = omega arith

names : (before : ℕ) (bytes : List ℕ) → eqb before 0 ≡ false → Fit before bytes → has_slash bytes ≡ true → IsName (last_name bytes)
names before [] z e h = absurd cc
names before (b ∷ bytes) z e h =
    elim (has_slash bytes) as (λ k. has_slash bytes ≡ k → IsName (drop (cond k (suc (last_slash bytes)) 0) bytes)) [
      | true ↦ λ k. names b bytes (not_zero before b bytes e) (rest_fits before b bytes e) k
      | false ↦ λ k.
          let slash : b ≡ 47 = eqb-true _ _ (or-right _ _ h k) in
          record { some = behind_slash before b bytes z e slash; fits = name_fits b bytes (not_zero before b bytes e) (rest_fits before b bytes e) k }
    ] refl

root_is_root : (b : ℕ) → b ≡ 47 → same root (b ∷ []) ≡ false → ⊥
root_is_root b e f = let g = subst (λ k. same root (k ∷ []) ≡ false) e f in absurd cc

sized : (n : ℕ) → 1 ≤ n → n ≤ 4096 → (u16 ((1, 4096) ∷ [])).fits n ≡ true
sized n low high =
    let one : nat_le (max 1 n) (min 4096 n) ≡ true = le-leb _ _ (omega arith) in
    let two : nat_lt n 65536 ≡ true = lt-ltb _ _ (omega arith) in
    rw (one, two) refl

pub longer_than_root : (p : List ℕ) → IsPath p → same root p ≡ false → 1 < length p
longer_than_root [] e f = let t = path_length [] e in absurd (omega (arith, t.0))
longer_than_root (b ∷ []) e f = let is : b ≡ 47 = slash_is b (first_fits 0 b [] (path_fits (b ∷ []) e)) in absurd (root_is_root b is f)
longer_than_root (b ∷ c ∷ bytes) e f = omega arith

root_name : (b : ℕ) (bytes : List ℕ) → 1 ≤ length bytes → Fit 0 (b ∷ bytes) → IsName (last_name (b ∷ bytes))
root_name b bytes more e =
    elim (has_slash bytes) as (λ k. has_slash bytes ≡ k → IsName (drop (cond k (suc (last_slash bytes)) 0) bytes)) [
      | true ↦ λ k. names b bytes (not_zero 0 b bytes e) (rest_fits 0 b bytes e) k
      | false ↦ λ k. record { some = more; fits = name_fits b bytes (not_zero 0 b bytes e) (rest_fits 0 b bytes e) k }
    ] refl

text_of_name : (name : List ℕ) → IsName name → length name ≤ 4096 → IsText name
text_of_name name n le =
    let len : (u16 ((1, 4096) ∷ [])).fits (length name) ≡ true = sized (length name) n.some le in
    both _ _ len n.fits

pub last_name_is_text : (p : List ℕ) → IsPath p → same root p ≡ false → IsText (last_name p)
last_name_is_text [] e f = let t = path_length [] e in absurd (omega (arith, t.0))
last_name_is_text (b ∷ bytes) e f =
    let more : 1 < length (b ∷ bytes) = longer_than_root (b ∷ bytes) e f in
    let le = path_length (b ∷ bytes) e in
    text_of_name (last_name (b ∷ bytes)) (root_name b bytes (omega (arith, more)) (path_fits (b ∷ bytes) e)) (omega (arith, le.1, length-drop (suc (last_slash (b ∷ bytes))) (b ∷ bytes)))

-- what was read for a path
pub record WasPath (path : List ℕ) : Type 0 where
  pub fits : IsPath path
  pub utf8 : IsUtf8 path

pub was_path : (bytes : List ℕ) (len : ℕ) (rest path after : List ℕ) → IsBytes bytes → (u16 ((1, 4096) ∷ [])).read bytes ≡ Ok (len, rest) → (path_body len).read rest ≡ Ok (path, after) → WasPath path
was_path bytes len rest path after fits e f =
    let t = (u16_law ((1, 4096) ∷ [])).exact.takes bytes len rest fits e in
    let u = (path_body_law len).exact.takes rest path after t.0.rest_fits f in
    let same_len : length path ≡ len = length-fit_many path_byte after_byte len (len, 0) path u.1 in
    let front : (u16 ((1, 4096) ∷ [])).fits (length path) ≡ true = subst (λ n. (u16 ((1, 4096) ∷ [])).fits n ≡ true) (sym same_len) t.1 in
    let body : (path_body (length path)).fits path ≡ true = subst (λ n. (path_body n).fits path ≡ true) (sym same_len) u.1 in
    let is : IsPath path = both _ _ front body in
    record { fits = is; utf8 = path_utf8 path is }

pub last_name_utf8 : (p : List ℕ) → IsPath p → IsUtf8 (last_name p)
last_name_utf8 p e = let ascii = is_ascii 0 p (path_fits p e) in IsUtf8-from_ascii (last_name p) (λ i. rw get_or-drop (ascii (suc (last_slash p) + i)))
