-- Whether a limit stopped a run, the first of nodes, and tests of counts.
use Rattle.std.proofs.Common.{◌≡◌, ◌≢◌, ◌≤◌, ◌∙◌, ◌-◌, ℕ, true, false, List, [], ◌∷◌, length, take, drop, get_or, Option, Some, None, refl, sym, ap, arith}
use Rattle.std.proofs.Math.Seq.{take-length}
use Rattle.std.proofs.lemmas.Bool.Decides.{nat_tests}
use Rattle.std.specs.Bool.{◌==◌}
use Rattle.tg_base.specs.declared.ids.NodeId.{NodeId}
use Rattle.std.specs.Prelude.{is_some}
use Rattle.tg_base.specs.declared.fault.Which.{Which}

pub some_of : (o : Option Which) → is_some o ≡ true → (x : Which) × (o ≡ Some x)
some_of None e = absurd cc
some_of (Some x) e = (x, refl)

pub none_of : (o : Option Which) → is_some o ≡ false → o ≡ None
none_of None e = refl
none_of (Some x) e = absurd cc

pub split_nodes : (ns : List NodeId) (d : NodeId) → 1 ≤ length ns → ns ≡ get_or ns 0 d ∷ take (length ns - 1) (drop 1 ns)
split_nodes [] d h = absurd (omega (arith, h))
split_nodes (n ∷ ns) d h = let less : length (n ∷ ns) - 1 ≡ length ns = omega arith in ap (λ (xs : List NodeId). n ∷ xs) (sym (ap (λ k. take k ns) less ∙ take-length ns))

-- what a test of two counts tells of them

pub as_many : (x y a b : ℕ) → x ≡ a → y ≡ b → x ≡ y → (a == b) ≡ true
as_many x y a b e f same = grind (arith, nat_tests)

pub not_as_many : (x y a b : ℕ) → x ≡ a → y ≡ b → x ≢ y → (a == b) ≡ false
not_as_many x y a b e f apart = grind (arith, nat_tests)
