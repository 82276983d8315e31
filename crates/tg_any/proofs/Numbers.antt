-- Numbers as texts, and what is read of them.
use Rattle.std.proofs.Common.{◌≢◌, suc, get_or, neg_ℤ, ◌&&◌, ℕ, ◌+◌, ◌^◌, ◌<◌, ◌≡◌, Bool, true, false, cond, List, [], ◌∷◌, ◌++◌, length, take, drop, Option, Some, None, Result, Ok, Err, sym, refl, subst, ap, ◌∙◌, arith, ltb, ℤ, pos, negsuc, FitsSigned}
use Rattle.std.specs.Prelude.{IfNone, MatchResult, option_map, option_and_then}
use Rattle.std.specs.Result.{result_ok}
use Rattle.std.specs.Option.{unwrap_or}
use Rattle.std.specs.Int.{w64}
use Rattle.std.specs.Int.Signed.{mag}
use Rattle.std.specs.List.{prefix_len}
use Rattle.std.specs.Char.{is_ascii_digit}
use Rattle.std.specs.Str.{bytes_eq, all_ascii_digits}
use Rattle.std.specs.Str.Parse.{digits_value, signed_digits_value}
use Rattle.std.specs.Fmt.{decimal, signed_decimal}
use Rattle.std.proofs.lemmas.List.{take-append-drop}
use Rattle.std.proofs.Math.Seq.{take-append_seam, drop-append_seam}
use Rattle.std.specs.Int.{IsInRange}
use Rattle.std.proofs.lemmas.Bool.{ne_eqb, ltb-true, lt-ltb, and_parts}
use Rattle.std.proofs.lemmas.Slice.Eq.{bytes_eq-Decides}
use Rattle.std.proofs.lemmas.Str.Parse.{not_in_digits, without_leading_plus_none, numerals_by_value, tells_all_ascii_digits}
use Rattle.std.proofs.lemmas.Fmt.{decimal_nonempty, digits_decimal, decimal_is_IsNumeral}
use Rattle.tg_any.specs.Decimals.{number_in, signed_in, number_at}

pub none_from_err : {T E : Type 0} (r : Result T E) (o : Option T) (A : T → Type 0) (B : E → Type 0) (N : Type 0) → o ≡ result_ok r → MatchResult r A B → ((e : E) → B e → N) → IfNone o N
none_from_err (Ok x) o A B N is m f = subst (λ o. IfNone o N) (sym is) tt
none_from_err (Err e) o A B N is m f = subst (λ o. IfNone o N) (sym is) (f e m)

-- what a step of reading gave, from what the whole gave
pub map_takes : {A B : Type 0} (f : A → B) (o : Option A) (y : B) → option_map f o ≡ Some y → (x : A) × (o ≡ Some x) × (f x ≡ y)
map_takes f None y e = absurd cc
map_takes f (Some x) y e = (x, refl, ap (λ o. unwrap_or o y) e)

pub bind_takes : {A B : Type 0} (f : A → Option B) (o : Option A) (y : B) → option_and_then f o ≡ Some y → (x : A) × (o ≡ Some x) × (f x ≡ Some y)
bind_takes f None y e = absurd cc
bind_takes f (Some x) y e = (x, refl, e)

pub when_takes : {A : Type 0} (b : Bool) (x y : A) → cond b (Some x) None ≡ Some y → (b ≡ true) × (x ≡ y)
when_takes true x y e = (refl, ap (λ o. unwrap_or o y) e)
when_takes false x y e = absurd cc

checked_none : {A : Type 0} (b c : Bool) (x : A) → (b ≡ true → c ≡ true → ⊥) → None ≡ cond (b && c) (Some x) None
checked_none true true x never = absurd (never refl refl)
checked_none true false x never = refl
checked_none false c x never = refl

pub number_in_takes : (word : List ℕ) (n : ℕ) → number_in word ≡ Some n → (n < 2 ^ 64) × (word ≡ decimal n)
unfolding number_in
number_in_takes word n e =
    let h = when_takes _ _ _ e in
    let p = and_parts _ _ h.0 in
    (subst (λ v. v < 2 ^ 64) h.1 (ltb-true _ _ p.0), subst (λ v. word ≡ decimal v) h.1 ((bytes_eq-Decides _ _).0 p.1))

pub number_in_none : (word : List ℕ) → ((n : ℕ) → n < 2 ^ 64 → word ≡ decimal n → ⊥) → None ≡ number_in word
unfolding number_in
number_in_none word never = checked_none (ltb (digits_value 10 word) (2 ^ 64)) (bytes_eq word (decimal (digits_value 10 word))) (digits_value 10 word) (λ a b. never _ (ltb-true _ _ a) ((bytes_eq-Decides _ _).0 b))

decimal_value : (n : ℕ) → n < 2 ^ 64 → digits_value 10 (decimal n) ≡ n
decimal_value n small = (decimal_is_IsNumeral n small).1

again-step : (n v : ℕ) → n < 2 ^ 64 → v ≡ n → cond (ltb v (2 ^ 64) && bytes_eq (decimal n) (decimal v)) (Some v) None ≡ Some n
again-step n v small e = rw (e, lt-ltb n (2 ^ 64) small, (bytes_eq-Decides (decimal n) (decimal n)).1 refl) refl

pub number_in_again : (n : ℕ) → n < 2 ^ 64 → number_in (decimal n) ≡ Some n
unfolding number_in
number_in_again n small = again-step n _ small (decimal_value n small)

-- signed numbers
pub signed_in_takes : (word : List ℕ) (z : ℤ) → signed_in word ≡ Some z → FitsSigned w64 z × (word ≡ signed_decimal z)
unfolding signed_in
signed_in_takes word z e =
    let h = when_takes _ _ _ e in
    let p = and_parts _ _ h.0 in
    (subst (λ v. FitsSigned w64 v) h.1 (record { sfits = ltb-true _ _ p.0 }), subst (λ v. word ≡ signed_decimal v) h.1 ((bytes_eq-Decides _ _).0 p.1))

pub signed_in_none : (word : List ℕ) → ((z : ℤ) → FitsSigned w64 z → word ≡ signed_decimal z → ⊥) → None ≡ signed_in word
unfolding signed_in
signed_in_none word never = checked_none (ltb (mag (signed_digits_value 10 word)) (2 ^ 63)) (bytes_eq word (signed_decimal (signed_digits_value 10 word))) (signed_digits_value 10 word) (λ a b. never _ (record { sfits = ltb-true _ _ a }) ((bytes_eq-Decides _ _).0 b))

pub number_in_found : (word : List ℕ) (n : ℕ) → n < 2 ^ 64 → word ≡ decimal n → Some n ≡ number_in word
number_in_found word n small e = subst (λ w. Some n ≡ number_in w) (sym e) (sym (number_in_again n small))

not_in_decimal : (n c : ℕ) → n < 2 ^ 64 → ¬ (IsInRange 48 57 c) → get_or (decimal n) 0 0 ≢ c
not_in_decimal n c small out =
    not_in_digits (numerals_by_value (λ ds. all_ascii_digits ds ≡ true) tells_all_ascii_digits) _ c (digits_decimal (numerals_by_value (λ ds. all_ascii_digits ds ≡ true) tells_all_ascii_digits) n small) out 0 (decimal_nonempty n small)

plain_value : (ds : List ℕ) (n : ℕ) → get_or ds 0 0 ≢ 45 → get_or ds 0 0 ≢ 43 → digits_value 10 ds ≡ n → signed_digits_value 10 ds ≡ pos n
plain_value ds n a b e = rw (ne_eqb (get_or ds 0 0) 45 a, without_leading_plus_none ds b, e) refl

signed_value : (z : ℤ) → FitsSigned w64 z → signed_digits_value 10 (signed_decimal z) ≡ z
signed_value (pos n) fits =
    let small : n < 2 ^ 64 = omega (arith, fits.sfits) in
    plain_value (decimal n) n (not_in_decimal n 45 small (λ r. omega (arith, r))) (not_in_decimal n 43 small (λ r. omega (arith, r))) (decimal_value n small)
signed_value (negsuc n) fits = ap (λ v. neg_ℤ (pos v)) (decimal_value (suc n) (omega (arith, fits.sfits)))

again-signed : (z v : ℤ) → mag z < 2 ^ 63 → v ≡ z → cond (ltb (mag v) (2 ^ 63) && bytes_eq (signed_decimal z) (signed_decimal v)) (Some v) None ≡ Some z
again-signed z v small e = rw (e, lt-ltb (mag z) (2 ^ 63) small, (bytes_eq-Decides (signed_decimal z) (signed_decimal z)).1 refl) refl

pub signed_in_again : (z : ℤ) → FitsSigned w64 z → signed_in (signed_decimal z) ≡ Some z
unfolding signed_in
signed_in_again z fits = again-signed z _ fits.sfits (signed_value z fits)

pub signed_in_found : (word : List ℕ) (z : ℤ) → FitsSigned w64 z → word ≡ signed_decimal z → Some z ≡ signed_in word
signed_in_found word z fits e = subst (λ w. Some z ≡ signed_in w) (sym e) (sym (signed_in_again z fits))

-- a number at the front
front-step : (d m k : ℕ) → is_ascii_digit d ≡ true → m ≡ k → cond (is_ascii_digit d) (1 + m) 0 ≡ suc k
front-step d m k digit e = rw (digit, e) (omega arith)

digits_front : (ds rest : List ℕ) → all_ascii_digits ds ≡ true → prefix_len is_ascii_digit rest ≡ 0 → prefix_len is_ascii_digit (ds ++ rest) ≡ length ds
digits_front [] rest e stop = stop
digits_front (d ∷ ds) rest e stop = let p = and_parts _ _ e in front-step d _ _ p.0 (digits_front ds rest p.1 stop)

front_length : (n : ℕ) (rest : List ℕ) → n < 2 ^ 64 → prefix_len is_ascii_digit rest ≡ 0 → prefix_len is_ascii_digit (decimal n ++ rest) ≡ length (decimal n)
front_length n rest small stop = digits_front (decimal n) rest (digits_decimal (numerals_by_value (λ ds. all_ascii_digits ds ≡ true) tells_all_ascii_digits) n small) stop

again-front : (word rest : List ℕ) (k n : ℕ) → k ≡ length word → number_in word ≡ Some n
    → ◌≡◌ {A = Option (ℕ × List ℕ)} (option_map (λ n. (n, drop k (word ++ rest))) (number_in (take k (word ++ rest)))) (Some (n, rest))
again-front word rest k n e read = rw (e, take-append_seam word rest, drop-append_seam word rest, read) refl

pub number_at_again : (n : ℕ) (rest : List ℕ) → n < 2 ^ 64 → prefix_len is_ascii_digit rest ≡ 0 → ◌≡◌ {A = Option (ℕ × List ℕ)} (number_at (decimal n ++ rest)) (Some (n, rest))
unfolding number_at
number_at_again n rest small stop = again-front (decimal n) rest _ n (front_length n rest small stop) (number_in_again n small)

pub number_at_takes : (text : List ℕ) (p : ℕ × List ℕ) → number_at text ≡ Some p → (p.0 < 2 ^ 64) × (text ≡ decimal p.0 ++ p.1)
unfolding number_at
number_at_takes text p e =
    let h = map_takes _ _ _ e in
    let w = number_in_takes _ _ h.1 in
    subst (λ (p : ℕ × List ℕ). (p.0 < 2 ^ 64) × (text ≡ decimal p.0 ++ p.1)) h.2
    (w.0, sym (take-append-drop (prefix_len is_ascii_digit text) text) ∙ ap (λ w. w ++ drop (prefix_len is_ascii_digit text) text) w.1)
