-- Tests of numbers, objects, parts and writes.
use Rattle.std.proofs.Common.{◌≡◌, ℕ, ◌<◌, ◌≤◌, List, Bool, true, refl, ap, arith}
use Rattle.std.specs.Prelude.{◌==◌, ◌&&◌, nat_lt, nat_le}
use Rattle.std.specs.Cmp.Lexicographic.{pointwise, pointwise_decides}
use Rattle.std.proofs.lemmas.Bool.Decides.{nat_tests}
use Rattle.tg_base.specs.Orders.{oid_eq}
use Rattle.tg_base.specs.declared.ids.Oid.{Oid}
use Rattle.tg_base.specs.declared.marks.Part.{Part}
use Rattle.tg_base.specs.declared.marks.Part.TheVariants.{All, Text, Num}
use Rattle.tg_kind.specs.Parts.{part_eq}
use Rattle.tg_law_verdicts.proofs.Members.{and_both, both_and}

pub same_number : (a b : ℕ) → (a == b) ≡ true → a ≡ b
same_number a b e = grind (arith, nat_tests)

pub number_same : (a b : ℕ) → a ≡ b → (a == b) ≡ true
number_same a b e = grind (arith, nat_tests)

pub le_of : (a b : ℕ) → nat_le a b ≡ true → a ≤ b
le_of a b e = grind (arith, nat_tests)

pub of_le : (a b : ℕ) → a ≤ b → nat_le a b ≡ true
of_le a b e = grind (arith, nat_tests)

pub lt_of : (a b : ℕ) → nat_lt a b ≡ true → a < b
lt_of a b e = grind (arith, nat_tests)

pub of_lt : (a b : ℕ) → a < b → nat_lt a b ≡ true
of_lt a b e = grind (arith, nat_tests)

pub same_oid : (o q : Oid) → oid_eq o q ≡ true → o ≡ q
same_oid o q e = let is : o.0 ≡ q.0 = same_number o.0 q.0 e in λ i. record { 0 = is i }

pub oid_same : (o q : Oid) → o ≡ q → oid_eq o q ≡ true
oid_same o q e = number_same o.0 q.0 (ap (λ (x : Oid). x.0) e)

bytes_decide : (x y : ℕ) → ((x == y) ≡ true → x ≡ y) × (x ≡ y → (x == y) ≡ true)
bytes_decide x y = (same_number x y, number_same x y)

pub same_part : (a b : Part) → part_eq a b ≡ true → a ≡ b
same_part All All e = refl
same_part All (Text t) e = absurd cc
same_part All (Num n) e = absurd cc
same_part (Text s) All e = absurd cc
same_part (Text s) (Text t) e = ap Text ((pointwise_decides bytes_decide s t).0 e)
same_part (Text s) (Num n) e = absurd cc
same_part (Num m) All e = absurd cc
same_part (Num m) (Text t) e = absurd cc
same_part (Num m) (Num n) e = ap Num (same_number m n e)

pub part_itself : (a : Part) → part_eq a a ≡ true
part_itself All = refl
part_itself (Text s) = (pointwise_decides bytes_decide s s).1 refl
part_itself (Num n) = number_same n n refl

-- writes, where ops are compared exactly
module _ {A : Type 0} {test : A → A → Bool} (decides : (a b : A) → (test a b ≡ true → a ≡ b) × (a ≡ b → test a b ≡ true)) where
  same_write : (v w : Oid × A) → (oid_eq v.0 w.0 && test v.1 w.1) ≡ true → v ≡ w
  same_write v w e =
      let p = and_both (oid_eq v.0 w.0) (test v.1 w.1) e in
      λ i. (same_oid v.0 w.0 p.0 i, (decides v.1 w.1).0 p.1 i)

  write_same : (v w : Oid × A) → v ≡ w → (oid_eq v.0 w.0 && test v.1 w.1) ≡ true
  write_same v w e = both_and (oid_eq v.0 w.0) (test v.1 w.1) (oid_same v.0 w.0 (ap (λ (x : Oid × A). x.0) e)) ((decides v.1 w.1).1 (ap (λ (x : Oid × A). x.1) e))

  pub writes_decide : (vs ws : List (Oid × A)) → (pointwise (λ v w. oid_eq v.0 w.0 && test v.1 w.1) vs ws ≡ true → vs ≡ ws) × (vs ≡ ws → pointwise (λ v w. oid_eq v.0 w.0 && test v.1 w.1) vs ws ≡ true)
  writes_decide = pointwise_decides (λ v w. (same_write v w, write_same v w))
