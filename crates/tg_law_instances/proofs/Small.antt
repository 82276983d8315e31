-- Small lemmas of tests and of values that may be missing.
use Rattle.std.proofs.Common.{◌≡◌, Bool, true, false, Option, Some, None, refl}
use Rattle.std.specs.Prelude.{not, is_some}

pub clash : (b : Bool) → b ≡ true → b ≡ false → ⊥
clash true x y = cc
clash false x y = cc

pub never : {X : Type 0} → (x : X) → None ≡ Some x → ⊥
never x e = cc

pub of_some : {X : Type 0} → (x y : X) → Some x ≡ Some y → x ≡ y
of_some x y e = cc

pub is_none : {X : Type 0} → (o : Option X) → not (is_some o) ≡ true → o ≡ None
is_none None h = refl
is_none (Some x) h = absurd cc
