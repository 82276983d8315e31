-- A node is moved out of a row, where the last one takes its place, and comes back from the end.
use Rattle.std.specs.Prelude.{◌≡◌, ◌⊎◌, ℕ, ◌+◌, ◌-◌, ◌<◌, ◌≤◌, List, [], ◌∷◌, ◌++◌, length, swap, slice_set, slice_index_or, refl}
use Rattle.std.specs.List.{swap_remove}
use Rattle.std.proofs.Common.{sym, ap, subst, ◌∙◌, arith, take, inl, inr}
use Rattle.std.proofs.lemmas.List.{length-set, length_push, length-take-le, set-set, set-append_left, get_or_push, get_or_append_left, get_or-set_same, take-append-le, take-set-le, take_all, take_more}
use Rattle.std.proofs.lemmas.List.Edits.{swap_is}
use Rattle.std.proofs.Math.Nat.{eq-or-lt_of_le}
use Rattle.std.proofs.Math.Seq.{set-append_seam}

-- the last one of a row apart
module _ {X : Type 0} (ms : List X) (z y x : X) where
  one_less : length (ms ++ z ∷ []) - 1 ≡ length ms
  one_less = let h : length (ms ++ z ∷ []) ≡ length ms + 1 = length_push ms z in omega (arith, h)

  out : (n : ℕ) → swap_remove (ms ++ z ∷ []) n x ≡ take (length ms) (slice_set (ms ++ z ∷ []) n z)
  out n = (λ i. take (one_less i) (slice_set (ms ++ z ∷ []) n (slice_index_or (ms ++ z ∷ []) (one_less i) x))) ∙ ap (λ v. take (length ms) (slice_set (ms ++ z ∷ []) n v)) (get_or_push ms z x (length ms) refl)

  out_there : (n : ℕ) → n < length ms → swap_remove (ms ++ z ∷ []) n x ≡ slice_set ms n z
  out_there n h =
      let long : length (slice_set ms n z) ≡ length ms = length-set ms n z in
      out n ∙ ap (take (length ms)) (set-append_left ms (z ∷ []) n z h) ∙ take-append-le (length ms) (slice_set ms n z) (z ∷ []) (omega (arith, long)) ∙ take_all (length ms) (slice_set ms n z) (omega (arith, long))

  out_last : swap_remove (ms ++ z ∷ []) (length ms) x ≡ ms
  out_last =
      out (length ms) ∙ take-set-le (length ms) (ms ++ z ∷ []) (length ms) z (omega arith) ∙ take-append-le (length ms) ms (z ∷ []) (omega arith) ∙ take_all (length ms) ms (omega arith)

  back_there : (n : ℕ) → n < length ms → swap (slice_set ms n z ++ y ∷ []) n (length (slice_set ms n z)) ≡ slice_set (ms ++ z ∷ []) n y
  back_there n h =
      let ns : List X = slice_set ms n z in
      let long : length ns ≡ length ms = length-set ms n z in
      let longer : length (ns ++ y ∷ []) ≡ length ns + 1 = length_push ns y in
      let within : n < length ns = omega (arith, long, h) in
      let low : n < length (ns ++ y ∷ []) = omega (arith, longer, within) in
      let high : length ns < length (ns ++ y ∷ []) = omega (arith, longer) in
      let same : length ns ≡ length (slice_set ms n y) = long ∙ sym (length-set ms n y) in
      sym (swap_is (ns ++ y ∷ []) n (length ns) y low high)
      ∙ (λ i. slice_set (slice_set (ns ++ y ∷ []) n (get_or_push ns y y (length ns) refl i)) (length ns) ((get_or_append_left ns (y ∷ []) y n within ∙ get_or-set_same ms n z y h) i))
      ∙ (λ i. slice_set ((set-append_left ns (y ∷ []) n y within ∙ ap (λ l. l ++ y ∷ []) (set-set ms n z y)) i) (same i) z)
      ∙ set-append_seam (slice_set ms n y) y [] z
      ∙ sym (set-append_left ms (z ∷ []) n y h)

  back_last : swap (ms ++ y ∷ []) (length ms) (length ms) ≡ slice_set (ms ++ z ∷ []) (length ms) y
  back_last =
      let longer : length (ms ++ y ∷ []) ≡ length ms + 1 = length_push ms y in
      let high : length ms < length (ms ++ y ∷ []) = omega (arith, longer) in
      sym (swap_is (ms ++ y ∷ []) (length ms) (length ms) y high high)
      ∙ (λ i. slice_set (slice_set (ms ++ y ∷ []) (length ms) (get_or_push ms y y (length ms) refl i)) (length ms) (get_or_push ms y y (length ms) refl i))
      ∙ set-set (ms ++ y ∷ []) (length ms) y y
      ∙ set-append_seam ms y [] y
      ∙ sym (set-append_seam ms z [] y)

  back : (n : ℕ) → n ≤ length ms → swap (swap_remove (ms ++ z ∷ []) n x ++ y ∷ []) n (length (swap_remove (ms ++ z ∷ []) n x)) ≡ slice_set (ms ++ z ∷ []) n y
  back n h = by (eq-or-lt_of_le h)
    where
      by : (n ≡ length ms) ⊎ (n < length ms) → swap (swap_remove (ms ++ z ∷ []) n x ++ y ∷ []) n (length (swap_remove (ms ++ z ∷ []) n x)) ≡ slice_set (ms ++ z ∷ []) n y
      by (inl e) =
          subst (λ (k : ℕ). swap (swap_remove (ms ++ z ∷ []) k x ++ y ∷ []) k (length (swap_remove (ms ++ z ∷ []) k x)) ≡ slice_set (ms ++ z ∷ []) k y) (sym e)
          (ap (λ l. swap (l ++ y ∷ []) (length ms) (length l)) out_last ∙ back_last)
      by (inr l) = ap (λ ns. swap (ns ++ y ∷ []) n (length ns)) (out_there n l) ∙ back_there n l

pub swapped_back : {X : Type 0} (xs : List X) (n : ℕ) (x y : X) → n < length xs → swap (swap_remove xs n x ++ y ∷ []) n (length (swap_remove xs n x)) ≡ slice_set xs n y
swapped_back {X} xs n x y h =
    subst (λ (l : List X). swap (swap_remove l n x ++ y ∷ []) n (length (swap_remove l n x)) ≡ slice_set l n y) (sym apart) (back (take (length xs - 1) xs) (slice_index_or xs (length xs - 1) x) y x n within)
  where
    apart : xs ≡ take (length xs - 1) xs ++ slice_index_or xs (length xs - 1) x ∷ []
    apart = let last : length xs - 1 < length xs = omega (arith, h) in sym (take_all (length xs - 1 + 1) xs (omega (arith, h))) ∙ take_more xs (length xs - 1) x last

    within : n ≤ length (take (length xs - 1) xs)
    within = let long : length (take (length xs - 1) xs) ≡ length xs - 1 = length-take-le (length xs - 1) xs (omega arith) in omega (arith, h, long)

-- the row after what was moved out is put back
pub set_back : {X : Type 0} (xs ys zs : List X) (n : ℕ) (x y : X) → n < length xs → ys ≡ swap_remove xs n x → zs ≡ swap (ys ++ y ∷ []) n (length ys) → zs ≡ slice_set xs n y
set_back {X} xs ys zs n x y h e f = f ∙ ap (λ (l : List X). swap (l ++ y ∷ []) n (length l)) e ∙ swapped_back xs n x y h
