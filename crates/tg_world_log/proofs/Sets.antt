-- Rising lists of numbers, as sets have them.
use Rattle.std.specs.Prelude.{◌≡◌, ℕ, zero, suc, ◌-◌, ◌<◌, ◌≤◌, List, [], ◌∷◌, length, drop, refl}
use Rattle.std.specs.BTreeSet.{insert_key}
use Rattle.std.specs.Ordering.{nat_cmp}
use Rattle.std.proofs.Common.{ap, sym, ◌∙◌, get_or, arith}
use Rattle.std.proofs.lemmas.Bool.Decides.{nat_tests}
use Rattle.tg_protocol.specs.Words.{with_num, with_nums}
use Rattle.tg_world_log.specs.Archives.{with_keys}

put_step : (p x : ℕ) (xs : List ℕ) → insert_key nat_cmp xs p ≡ with_num p xs → insert_key nat_cmp (x ∷ xs) p ≡ with_num p (x ∷ xs)
put_step p x xs h = grind (arith, nat_tests)

num_put : (xs : List ℕ) (p : ℕ) → insert_key nat_cmp xs p ≡ with_num p xs
num_put [] p = refl
num_put (x ∷ xs) p = put_step p x xs (num_put xs p)

pub nums_put : (xs ys : List ℕ) → with_keys xs ys ≡ with_nums xs ys
nums_put [] ys = refl
nums_put (x ∷ xs) ys = num_put (with_keys xs ys) x ∙ ap (λ (zs : List ℕ). with_num x zs) (nums_put xs ys)

keys_drop : (xs start : List ℕ) (n : ℕ) → n < length xs → insert_key nat_cmp (with_keys (drop (suc n) xs) start) (get_or xs n 0) ≡ with_keys (drop n xs) start
keys_drop [] start n h = absurd (omega (arith, h))
keys_drop (x ∷ xs) start zero h = refl
keys_drop (x ∷ xs) start (suc n) h = let k : n < length xs = omega (arith, h) in keys_drop xs start n k

-- a key more, from the end on
pub keys_next : (xs found start new : List ℕ) (at : ℕ) → 0 < at → at ≤ length xs → found ≡ with_keys (drop at xs) start → new ≡ insert_key nat_cmp found (get_or xs (at - 1) 0) → new ≡ with_keys (drop (at - 1) xs) start
keys_next xs found start new zero h k e f = absurd (omega (arith, h))
keys_next xs found start new (suc n) h k e f =
    let less : suc n - 1 ≡ n = omega arith in
    let within : n < length xs = omega (arith, k) in
    f ∙ (λ i. insert_key nat_cmp (e i) (get_or xs (less i) 0)) ∙ keys_drop xs start n within ∙ ap (λ (j : ℕ). with_keys (drop j xs) start) (sym less)
