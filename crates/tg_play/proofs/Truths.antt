-- Conditions that are all true.
use Rattle.std.specs.Prelude.{◌≡◌, ℕ, ◌≤◌, Bool, true, false, ◌&&◌, nat_le, refl}
use Rattle.std.proofs.Common.{arith}
use Rattle.std.proofs.lemmas.Bool.Decides.{nat_tests}

pub both : (a b : Bool) → a ≡ true → b ≡ true → (a && b) ≡ true
both true b d e = e
both false b d e = absurd cc

pub first_true : (a b : Bool) → (a && b) ≡ true → a ≡ true
first_true true b e = refl
first_true false b e = absurd cc

pub rest_true : (a b : Bool) → (a && b) ≡ true → b ≡ true
rest_true true b e = e
rest_true false b e = absurd cc

pub four : (a b c d : Bool) → a ≡ true → b ≡ true → c ≡ true → d ≡ true → (a && b && c && d) ≡ true
four a b c d p q r s = both (a && b && c) d (both (a && b) c (both a b p q) r) s

pub within_itself : (n : ℕ) → nat_le n n ≡ true
within_itself n = grind (arith, nat_tests)

pub within_more : (k n m : ℕ) → n ≤ m → nat_le k n ≡ true → nat_le k m ≡ true
within_more k n m le h = grind (arith, nat_tests)
