-- The order of paths.
use Rattle.std.specs.Prelude.{◌≡◌, ℕ, zero, suc, ◌<◌, max, true, false, List, [], ◌∷◌, length, take, refl}
use Rattle.std.specs.declared.cmp.Ordering.TheVariants.{Less, Equal, Greater}
use Rattle.std.specs.Ordering.{nat_cmp, is_eq, ordering_then}
use Rattle.std.specs.Cmp.{nat_cmp_total}
use Rattle.std.proofs.Common.{arith, subst, cond, inl, inr}
use Rattle.std.proofs.lemmas.Bool.{cases_lt}
use Rattle.std.proofs.lemmas.Bool.Decides.{nat_tests}
use Rattle.std.proofs.lemmas.Cmp.{tied_itself}
use Rattle.tg_tree.specs.Paths.{root, by_bytes, same, IsPath, has_slash, last_slash, parent}
use Rattle.tg_tree.specs.PathLaws.{path_starts, longer_than_root}

cmp_less : (x y : ℕ) → x < y → nat_cmp x y ≡ Less
cmp_less x y lt = grind (arith, nat_tests)

cmp_greater : (x y : ℕ) → y < x → nat_cmp x y ≡ Greater
cmp_greater x y lt = grind (arith, nat_tests)

cmp_same : (x : ℕ) → nat_cmp x x ≡ Equal
cmp_same x = tied_itself nat_cmp_total x

data Ranked (x y : ℕ) : Type 0 where
  less : x < y → Ranked x y
  equal : x ≡ y → Ranked x y
  greater : y < x → Ranked x y

ranked : (x y : ℕ) → Ranked x y
ranked x y =
    elim (cases_lt x y) [
      | inl lt ↦ less lt
      | inr le ↦ elim (cases_lt y x) [ inl lt ↦ greater lt | inr le2 ↦ equal (omega (arith, le, le2)) ]
    ]

-- ---- the order

pub same_is : (p q : List ℕ) → same p q ≡ true → p ≡ q
same_is [] [] e = refl
same_is [] (y ∷ ys) e = absurd cc
same_is (x ∷ xs) [] e = absurd cc
same_is (x ∷ xs) (y ∷ ys) e =
    elim (ranked x y) [
      | less lt ↦ let c = cmp_less x y lt in let f : is_eq (ordering_then Less (by_bytes xs ys)) ≡ true = subst (λ o. is_eq (ordering_then o (by_bytes xs ys)) ≡ true) c e in absurd cc
      | equal is ↦
          let c : nat_cmp x y ≡ Equal = subst (λ k. nat_cmp x k ≡ Equal) is (cmp_same x) in
          let f : is_eq (ordering_then Equal (by_bytes xs ys)) ≡ true = subst (λ o. is_eq (ordering_then o (by_bytes xs ys)) ≡ true) c e in
          let rest : xs ≡ ys = same_is xs ys f in
          λ i. is i ∷ rest i
      | greater gt ↦ let c = cmp_greater x y gt in let f : is_eq (ordering_then Greater (by_bytes xs ys)) ≡ true = subst (λ o. is_eq (ordering_then o (by_bytes xs ys)) ≡ true) c e in absurd cc
    ]

pub same_itself : (p : List ℕ) → same p p ≡ true
same_itself [] = refl
same_itself (x ∷ xs) = let c = cmp_same x in let rest = same_itself xs in rw c rest

-- a front is below the whole
pub front_less : (k : ℕ) (p : List ℕ) → k < length p → by_bytes (take k p) p ≡ Less
front_less k [] lt = absurd (omega (arith, lt))
front_less zero (x ∷ xs) lt = refl
front_less (suc k) (x ∷ xs) lt = let c = cmp_same x in let rest = front_less k xs (omega (arith, lt)) in rw (c, rest) refl

-- ---- slashes

pub last_slash_within : (b : ℕ) (bytes : List ℕ) → last_slash (b ∷ bytes) < length (b ∷ bytes)
last_slash_within b [] = omega arith
last_slash_within b (c ∷ bytes) =
    elim (has_slash (c ∷ bytes)) as (λ k. cond k (suc (last_slash (c ∷ bytes))) 0 < suc (length (c ∷ bytes))) [
      | true ↦ omega (arith, last_slash_within c bytes)
      | false ↦ omega arith
    ]

-- a path's parent is below it in the order
pub parent_less : (p : List ℕ) → IsPath p → same root p ≡ false → by_bytes (parent p) p ≡ Less
parent_less [] is f = let s = path_starts [] is in absurd cc
parent_less (b ∷ rest) is f =
    let more = longer_than_root (b ∷ rest) is f in
    front_less (max 1 (last_slash (b ∷ rest))) (b ∷ rest) (omega (arith, more, last_slash_within b rest))
