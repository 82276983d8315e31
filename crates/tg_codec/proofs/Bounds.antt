-- Bytes above a bound, and bytes from ranges, keep the law; and which fit.
use Rattle.std.proofs.Common.{◌≡◌, ℕ, suc, ◌+◌, ◌-◌, ◌*◌, ◌<◌, ◌≤◌, Bool, true, false, cond, ◌&&◌, ◌||◌, eqb, ltb, leb, max, min, List, [], ◌∷◌, ◌++◌, length, take, drop, append_assoc, Ok, refl, sym, ap, subst, ◌∙◌, inl, inr, arith}
use Rattle.std.proofs.lemmas.Bool.{cases_lt, ltb-true, lt-ltb, le-ltb, eqb-true, leb-true, le-leb}
use Rattle.std.proofs.lemmas.List.{length-append, take_at, drop_at}
use Rattle.tg_codec.specs.Reading.{u8_at}
use Rattle.tg_codec.specs.Codec.{u8, many, spell_many, fit_many}
use Rattle.tg_codec.specs.Bounds.{is_above, tops, least_above, bound_after, byte_above, after_byte, raw_above, same_ranges, raw_in}
use Rattle.tg_codec.proofs.Laws.{IsBytes, IsCodec, and-left, and-right, both, many_law, alike_law}
use Rattle.tg_codec.proofs.Numbers.{worth, number_takes}
use Rattle.tg_codec.proofs.Widths.{u8_law}

-- single bytes one after the other are spelled as they are
bytes-spell : {S : Type 0} (allowed : S → List (ℕ × ℕ)) (next : S → ℕ → S) (s : S) (bytes : List ℕ) → spell_many (λ t. u8 (allowed t)) next s bytes ≡ bytes
unfolding spell_many
bytes-spell allowed next s [] = refl
bytes-spell allowed next s (b ∷ bytes) = ap (λ (t : List ℕ). b ∷ t) (bytes-spell allowed next (next s b) bytes)

pub raw_above_law : (bound : List ℕ) (n : ℕ) → IsCodec (raw_above bound n)
raw_above_law bound n =
    alike_law (many byte_above after_byte n (bound, n)) (λ bytes. bytes) (bytes-spell (λ s. (least_above s.0 s.1, 255) ∷ []) after_byte (bound, n)) (many_law byte_above after_byte (λ s. u8_law _) n (bound, n))

pub raw_in_law : (ranges : List (ℕ × ℕ)) (n : ℕ) → IsCodec (raw_in ranges n)
raw_in_law ranges n =
    alike_law (many u8 same_ranges n ranges) (λ bytes. bytes) (bytes-spell (λ r. r) same_ranges ranges) (many_law u8 same_ranges (λ r. u8_law r) n ranges)

-- a byte from low on
abbrev fits_from : ℕ → ℕ → Bool
fits_from low b = (byte_above ([], low)).fits b

from_low : (low b : ℕ) → low ≤ b → b < 256 → (u8 ((low, 255) ∷ [])).fits b ≡ true
from_low low b le lt =
    let one : leb (max low b) (min 255 b) ≡ true = le-leb _ _ (omega arith) in
    let two : ltb b 256 ≡ true = lt-ltb _ _ lt in
    rw (one, two) refl

or-false : (a : Bool) → (a || false) ≡ true → a ≡ true
or-false true e = refl
or-false false e = absurd cc

is_from : (low b : ℕ) → (u8 ((low, 255) ∷ [])).fits b ≡ true → (low ≤ b) × (b < 256)
is_from low b e =
    let one : leb (max low b) (min 255 b) ≡ true = or-false _ (and-left _ _ e) in
    let le : max low b ≤ min 255 b = leb-true _ _ one in
    (omega (arith, le), ltb-true _ _ (and-right _ _ e))

IsBytes-rest : (b : ℕ) (bytes : List ℕ) → IsBytes (b ∷ bytes) → IsBytes bytes
IsBytes-rest b bytes h i = h (suc i)

fit_free : (n : ℕ) (bytes : List ℕ) → IsBytes bytes → fit_many byte_above after_byte (length bytes) ([], n) bytes ≡ true
unfolding fit_many
fit_free n [] h = refl
fit_free n (b ∷ bytes) h = both _ _ (from_low 0 b (omega arith) (h 0)) (fit_free (n - 1) bytes (IsBytes-rest b bytes h))

or-cases : (a b : Bool) → (a || b) ≡ true → a ≡ false → b ≡ true
or-cases true b e f = absurd cc
or-cases false b e f = e

-- bytes above a text are more than the greatest bytes that it begins with
tops_lt : (bound bytes : List ℕ) → IsBytes bytes → is_above bound bytes ≡ true → tops bound < length bytes
tops_lt [] [] h e = absurd cc
tops_lt [] (b ∷ bytes) h e = omega arith
tops_lt (t ∷ bound) [] h e = absurd cc
tops_lt (t ∷ bound) (b ∷ bytes) h e =
    elim (eqb t 255) as (λ k. eqb t 255 ≡ k → cond k (suc (tops bound)) 0 < suc (length bytes)) [
      | true ↦ λ k.
          let top : t ≡ 255 = eqb-true _ _ k in
          let not_lt : ltb t b ≡ false = le-ltb _ _ (omega (arith, top, h 0)) in
          let rest = and-right _ _ (or-cases _ _ e not_lt) in
          let less = tops_lt bound bytes (IsBytes-rest b bytes h) rest in
          omega (arith, less)
      | false ↦ λ k. omega arith
    ] refl

pub fit_above : (bound bytes : List ℕ) → IsBytes bytes → is_above bound bytes ≡ true → (raw_above bound (length bytes)).fits bytes ≡ true
unfolding fit_many
fit_above [] bytes h e = fit_free (length bytes) bytes h
fit_above (t ∷ bound) [] h e = absurd cc
fit_above (t ∷ bound) (b ∷ bytes) h e =
    elim (cases_lt t b) [
      | inl lt ↦
          let over : ltb t b ≡ true = lt-ltb _ _ lt in
          let least : cond (ltb (tops bound) (length bytes)) t (t + 1) ≤ b = elim (ltb (tops bound) (length bytes)) as (λ k. cond k t (t + 1) ≤ b) [ true ↦ omega (arith, lt) | false ↦ omega (arith, lt) ] in
          let free : fit_many byte_above after_byte (length bytes) (cond (ltb t b) [] bound, length bytes) bytes ≡ true = rw over (fit_free (length bytes) bytes (IsBytes-rest b bytes h)) in
          let one_less : suc (length bytes) - 1 ≡ length bytes = omega arith in
          rw one_less (both _ _ (from_low _ b least (h 0)) free)
      | inr le ↦
          let over : ltb t b ≡ false = le-ltb _ _ le in
          let rest = or-cases _ _ e over in
          let same : t ≡ b = eqb-true _ _ (and-left _ _ rest) in
          let more = and-right _ _ rest in
          let room : ltb (tops bound) (length bytes) ≡ true = lt-ltb _ _ (tops_lt bound bytes (IsBytes-rest b bytes h) more) in
          let least : cond (ltb (tops bound) (length bytes)) t (t + 1) ≤ b = rw room (omega (arith, same)) in
          let next : fit_many byte_above after_byte (length bytes) (cond (ltb t b) [] bound, length bytes) bytes ≡ true = rw over (fit_above bound bytes (IsBytes-rest b bytes h) more) in
          let one_less : suc (length bytes) - 1 ≡ length bytes = omega arith in
          rw one_less (both _ _ (from_low _ b least (h 0)) next)
    ]

-- what a byte that goes on towards a bound says
goes_up : (t b : ℕ) (bound : List ℕ) (n : ℕ) → (byte_above (t ∷ bound, suc n)).fits b ≡ true → cond (ltb (tops bound) n) t (t + 1) ≤ b
goes_up t b bound n e =
    let from = is_from (cond (ltb (tops bound) (suc n - 1)) t (t + 1)) b e in
    let one_less : suc n - 1 ≡ n = omega arith in
    subst (λ k. cond (ltb (tops bound) k) t (t + 1) ≤ b) one_less from.0

fit_rest : (t b : ℕ) (bound : List ℕ) (n : ℕ) (bytes : List ℕ) → fit_many byte_above after_byte (suc n) (t ∷ bound, suc n) (b ∷ bytes) ≡ true → fit_many byte_above after_byte n (bound_after (t ∷ bound) b, n) bytes ≡ true
unfolding fit_many
fit_rest t b bound n bytes e =
    let one_less : suc n - 1 ≡ n = omega arith in
    subst (λ k. fit_many byte_above after_byte n (bound_after (t ∷ bound) b, k) bytes ≡ true) one_less (and-right _ _ e)

fit_first : (t b : ℕ) (bound : List ℕ) (n : ℕ) (bytes : List ℕ) → fit_many byte_above after_byte (suc n) (t ∷ bound, suc n) (b ∷ bytes) ≡ true → (byte_above (t ∷ bound, suc n)).fits b ≡ true
unfolding fit_many
fit_first t b bound n bytes e = and-left _ _ e

pub above_fit : (bound bytes : List ℕ) → tops bound < length bytes → (raw_above bound (length bytes)).fits bytes ≡ true → is_above bound bytes ≡ true
above_fit [] [] lt e = absurd (omega (arith, lt))
above_fit [] (b ∷ bytes) lt e = refl
above_fit (t ∷ bound) [] lt e = absurd (omega (arith, lt))
above_fit (t ∷ bound) (b ∷ bytes) lt e =
    let from = goes_up t b bound (length bytes) (fit_first t b bound (length bytes) bytes e) in
    let next : fit_many byte_above after_byte (length bytes) (cond (ltb t b) [] bound, length bytes) bytes ≡ true = fit_rest t b bound (length bytes) bytes e in
    elim (cases_lt t b) [
      | inl less ↦ let over : ltb t b ≡ true = lt-ltb _ _ less in rw over refl
      | inr le ↦
          let over : ltb t b ≡ false = le-ltb _ _ le in
          let rest : fit_many byte_above after_byte (length bytes) (bound, length bytes) bytes ≡ true = rw over at next in
          elim (ltb (tops bound) (length bytes)) as (λ k. ltb (tops bound) (length bytes) ≡ k → cond k t (t + 1) ≤ b → (ltb t b || (eqb t b && is_above bound bytes)) ≡ true) [
            | true ↦ λ k low.
                let same : t ≡ b = omega (arith, low, le) in
                let equal : eqb t b ≡ true = rw same (grind arith) in
                let more = above_fit bound bytes (ltb-true _ _ k) rest in
                rw (over, equal, more) refl
            | false ↦ λ k low. absurd (omega (arith, low, le))
          ] refl from
    ]

-- ---- reading single bytes in a loop

one_front : (front : List ℕ) → length front ≡ 1 → front ≡ worth front ∷ []
one_front [] e = absurd (omega (arith, e))
one_front (a ∷ []) e = let same : a ≡ a * 1 + 0 = omega arith in ap (λ k. k ∷ []) same
one_front (a ∷ b ∷ bytes) e = absurd (omega (arith, e))

pub one_read : (allowed : List (ℕ × ℕ)) (bytes : List ℕ) (b : ℕ) (after : List ℕ) → u8_at allowed bytes ≡ Ok (b, after) → bytes ≡ b ∷ after
unfolding u8_at
one_read allowed bytes b after e =
    let t = number_takes allowed 0 0 bytes b after e in
    let value : worth t.front ≡ b = omega (arith, t.is) in
    t.parts ∙ ap (λ (f : List ℕ). f ++ after) (one_front t.front t.len) ∙ ap (λ k. k ∷ after) value

-- one byte further
pub record Further (bytes after : List ℕ) (n b : ℕ) : Type 0 where
  pub took : take (n + 1) bytes ≡ take n bytes ++ b ∷ []
  pub parts : bytes ≡ take (n + 1) bytes ++ after
  pub len : length (take (n + 1) bytes) ≡ n + 1

pub further : (bytes rest after : List ℕ) (n b : ℕ) → bytes ≡ take n bytes ++ rest → length (take n bytes) ≡ n → rest ≡ b ∷ after → Further bytes after n b
further bytes rest after n b parts len starts =
    let whole : bytes ≡ (take n bytes ++ b ∷ []) ++ after = parts ∙ ap (λ (t : List ℕ). take n bytes ++ t) starts ∙ sym (append_assoc (take n bytes) (b ∷ []) after) in
    let size : length (take n bytes ++ b ∷ []) ≡ n + 1 = omega (arith, len, length-append (take n bytes) (b ∷ [])) in
    let took : take (n + 1) bytes ≡ take n bytes ++ b ∷ [] = ap (take (n + 1)) whole ∙ take_at (take n bytes ++ b ∷ []) after (n + 1) size in
    record { took = took; parts = whole ∙ ap (λ (t : List ℕ). t ++ after) (sym took); len = ap length took ∙ size }

-- the rest after the front
pub rest_is : (bytes rest : List ℕ) (n : ℕ) → bytes ≡ take n bytes ++ rest → length (take n bytes) ≡ n → rest ≡ drop n bytes
rest_is bytes rest n parts len = sym (ap (drop n) parts ∙ drop_at (take n bytes) rest n len)
