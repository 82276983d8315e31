-- What stands in short lists, and values that clash.
use Rattle.std.proofs.Common.{◌≡◌, ℕ, zero, suc, ◌<◌, List, [], ◌∷◌, ◌++◌, true, false, Option, Some, None, refl, sym, subst, arith}
use Rattle.std.specs.Prelude.{Contains, slice_index_or}

pub clash : true ≡ false → ⊥
clash e = cc

pub some_same : {X : Type 0} (x y : X) → Some x ≡ Some y → x ≡ y
some_same x y e = cc

pub some_or_none : {X : Type 0} (o : Option X) (x : X) → o ≡ None → o ≡ Some x → ⊥
some_or_none o x e f = absurd cc

pub no_items : {X : Type 0} (x : X) (xs : List X) → x ∷ xs ≡ [] → ⊥
no_items x xs e = cc

pub none_in : {X : Type 0} (x : X) → Contains [] x → ⊥
none_in x c = let less : c.0 < 0 = c.1 in absurd (omega (arith, less))

pub only_one : {X : Type 0} (y x : X) → Contains (y ∷ []) x → x ≡ y
only_one y x c = by c.0 c.1 c.2
  where
    by : (k : ℕ) → k < 1 → slice_index_or (y ∷ []) k x ≡ x → x ≡ y
    by zero less e = sym e
    by (suc k) less e = absurd (omega (arith, less))

-- what holds of each of four holds of what is among them
pub of_four : {X : Type 0} (P : X → Type 0) (a b c d : X) → P a → P b → P c → P d → (x : X) → Contains (a ∷ b ∷ c ∷ d ∷ []) x → P x
of_four P a b c d pa pb pc pd x i = by i.0 i.1 i.2
  where
    by : (k : ℕ) → k < 4 → slice_index_or (a ∷ b ∷ c ∷ d ∷ []) k x ≡ x → P x
    by zero less e = subst P e pa
    by (suc zero) less e = subst P e pb
    by (suc (suc zero)) less e = subst P e pc
    by (suc (suc (suc zero))) less e = subst P e pd
    by (suc (suc (suc (suc k)))) less e = absurd (omega (arith, less))

pub in_midst : {X : Type 0} (before after : List X) (x : X) → Contains (before ++ x ∷ after) x
in_midst [] after x = (0, omega arith, refl)
in_midst (y ∷ before) after x = let c = in_midst before after x in let less = c.1 in (suc c.0, omega (arith, less), c.2)
