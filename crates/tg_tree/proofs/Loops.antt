-- Bytes of paths, one after the other.
use Rattle.std.proofs.Common.{◌≡◌, ℕ, zero, suc, ◌+◌, ◌-◌, ◌<◌, ◌≤◌, Bool, true, false, cond, ◌&&◌, ◌||◌, eqb, List, [], ◌∷◌, length, drop, get_or, refl, sym, ap, ◌∙◌, arith, add-one, drop-cons, drop_of_length-le}
use Rattle.tg_codec.specs.Codec.{fit_many}
use Rattle.tg_tree.specs.Paths.{path_byte, after_byte, has_slash, last_slash}

drop_at : (xs : List ℕ) (i x : ℕ) → i < length xs → x ≡ get_or xs i 0 → drop i xs ≡ x ∷ drop (i + 1) xs
drop_at xs i x lt is = rw add-one (drop-cons xs i 0 lt) ∙ ap (λ y. y ∷ drop (i + 1) xs) (sym is)

-- the place of the last slash, from the slashes so far and those to come
abbrev pub last_from : ℕ → ℕ → List ℕ → ℕ
last_from i last bytes = cond (has_slash bytes) (i + last_slash bytes) last

always : (a : Bool) (n : ℕ) → cond (a || true) (0 + n) 0 ≡ n
always true n = omega arith
always false n = omega arith

never : (a : Bool) → cond (a || false) (0 + 0) 0 ≡ 0
never true = refl
never false = refl

always_from : (a : Bool) (i n last : ℕ) → cond (a || true) (i + suc n) last ≡ i + 1 + n
always_from true i n last = omega arith
always_from false i n last = omega arith

never_from : (a : Bool) (i last : ℕ) → cond (a || false) (i + 0) last ≡ cond a i last
never_from true i last = omega arith
never_from false i last = refl

last_step : (i b last new : ℕ) (bytes : List ℕ) → new ≡ cond (eqb b 47) i last → last_from (i + 1) new bytes ≡ last_from i last (b ∷ bytes)
last_step i b last new bytes to =
    elim (has_slash bytes) as (λ k. cond k (i + 1 + last_slash bytes) new ≡ cond (eqb b 47 || k) (i + cond k (suc (last_slash bytes)) 0) last) [
      | true ↦ sym (always_from (eqb b 47) i (last_slash bytes) last)
      | false ↦ to ∙ sym (never_from (eqb b 47) i last)
    ]

pub last_start : (bytes : List ℕ) → last_from 0 0 bytes ≡ last_slash bytes
last_start [] = refl
last_start (b ∷ bytes) =
    elim (has_slash bytes) as (λ k. cond (eqb b 47 || k) (0 + cond k (suc (last_slash bytes)) 0) 0 ≡ cond k (suc (last_slash bytes)) 0) [
      | true ↦ always (eqb b 47) (suc (last_slash bytes))
      | false ↦ never (eqb b 47)
    ]

pub last_more : (bytes : List ℕ) (i b last new total : ℕ) → i < length bytes → b ≡ get_or bytes i 0 → new ≡ cond (eqb b 47) i last → last_from i last (drop i bytes) ≡ total → last_from (i + 1) new (drop (i + 1) bytes) ≡ total
last_more bytes i b last new total lt is to so_far =
    let front : drop i bytes ≡ b ∷ drop (i + 1) bytes = drop_at bytes i b lt is in
    let one : last_from i last (b ∷ drop (i + 1) bytes) ≡ total = ap (last_from i last) (sym front) ∙ so_far in
    last_step i b last new (drop (i + 1) bytes) to ∙ one

pub last_end : (bytes : List ℕ) (i last total : ℕ) → length bytes ≤ i → last_from i last (drop i bytes) ≡ total → last ≡ total
last_end bytes i last total le so_far =
    let none : drop i bytes ≡ [] = drop_of_length-le bytes le in
    sym (ap (last_from i last) none) ∙ so_far

-- whether the bytes to come go on with a path
abbrev pub goes : ℕ → ℕ → List ℕ → Bool
goes n before bytes = fit_many path_byte after_byte n (n, before) bytes

goes_cons : (n before b : ℕ) (bytes : List ℕ) → goes (suc n) before (b ∷ bytes) ≡ ((path_byte (suc n, before)).fits b && goes n b bytes)
unfolding fit_many
goes_cons n before b bytes = let less : suc n - 1 ≡ n = omega arith in ap (λ k. (path_byte (suc n, before)).fits b && fit_many path_byte after_byte n (k, b) bytes) less

goes_at : (bytes : List ℕ) (i before b : ℕ) → i < length bytes → b ≡ get_or bytes i 0 → goes (length bytes - i) before (drop i bytes) ≡ ((path_byte (length bytes - i, before)).fits b && goes (length bytes - (i + 1)) b (drop (i + 1) bytes))
goes_at bytes i before b lt is =
    let front : drop i bytes ≡ b ∷ drop (i + 1) bytes = drop_at bytes i b lt is in
    let less : length bytes - i ≡ suc (length bytes - (i + 1)) = omega (arith, lt) in
    rw (front, less) (goes_cons (length bytes - (i + 1)) before b (drop (i + 1) bytes))

pub goes_more : (bytes : List ℕ) (i before b : ℕ) (total : Bool) → i < length bytes → b ≡ get_or bytes i 0 → (path_byte (length bytes - i, before)).fits b ≡ true → goes (length bytes - i) before (drop i bytes) ≡ total
    → goes (length bytes - (i + 1)) b (drop (i + 1) bytes) ≡ total
goes_more bytes i before b total lt is fits so_far =
    let rest = goes (length bytes - (i + 1)) b (drop (i + 1) bytes) in
    sym (ap (λ k. k && rest) fits) ∙ sym (goes_at bytes i before b lt is) ∙ so_far

pub goes_not : (bytes : List ℕ) (i before b : ℕ) (total : Bool) → i < length bytes → b ≡ get_or bytes i 0 → (path_byte (length bytes - i, before)).fits b ≡ false → goes (length bytes - i) before (drop i bytes) ≡ total → false ≡ total
goes_not bytes i before b total lt is fits so_far =
    let rest = goes (length bytes - (i + 1)) b (drop (i + 1) bytes) in
    sym (ap (λ k. k && rest) fits) ∙ sym (goes_at bytes i before b lt is) ∙ so_far

goes_nothing : (n before : ℕ) → n ≡ 0 → goes n before [] ≡ true
unfolding fit_many
goes_nothing zero before e = refl
goes_nothing (suc n) before e = absurd (omega (arith, e))

pub goes_end : (bytes : List ℕ) (i before : ℕ) (total : Bool) → length bytes ≤ i → goes (length bytes - i) before (drop i bytes) ≡ total → true ≡ total
goes_end bytes i before total le so_far =
    let none : drop i bytes ≡ [] = drop_of_length-le bytes le in
    let over : length bytes - i ≡ 0 = omega (arith, le) in
    sym (ap (λ (l : List ℕ). goes (length bytes - i) before l) none ∙ goes_nothing (length bytes - i) before over) ∙ so_far
