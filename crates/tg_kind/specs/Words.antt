-- Words of the formats of kinds, and their laws.
use Rattle.std.specs.Prelude.{◌≡◌, ℕ, ◌≤◌, Bool, true, false, ◌==◌, List, [], ◌∷◌, ◌++◌, length, Option, Some, None, Ok, refl, if◌then◌else◌}
use Rattle.std.proofs.Common.{cond, eqb, sym, arith}
use Rattle.std.proofs.lemmas.Bool.{eqb-true}
use Rattle.std.proofs.lemmas.Bool.Decides.{nat_tests}
use Rattle.tg_codec.specs.Codec.{Codec, fixed, dep, via, nothing, variant, tagged}
use Rattle.tg_codec.specs.Reading.{meets}
use Rattle.tg_codec.specs.Whole.{whole}
use Rattle.tg_codec.proofs.Laws.{IsExact, IsCodec, fixed_law, dep_law, via_law, nothing_law, variant_law}
use Rattle.tg_codec.proofs.Shapes.{tagged_law, chosen_law}
use Rattle.tg_codec.proofs.Wholes.{whole_found, whole_only}
use Rattle.tg_kind.specs.Bytes.{IsBytes}

-- a value behind one byte, which tells what it is
abbrev pub after : {A : Type 0} → ℕ → Codec A → Codec A
after code c = via (λ p. p.1) (λ x. (tt, x)) (dep (fixed (code ∷ [])) (λ _. c))

pub after_law : {A : Type 0} (code : ℕ) (c : Codec A) → IsCodec c → IsCodec (after code c)
after_law code c law = via_law _ _ (dep_law (fixed_law (code ∷ [])) (λ _. law)) (λ p e. refl) (λ x. refl)

-- what begins with a byte isn't empty

pub after_some : {A : Type 0} (code : ℕ) (c : Codec A) (x : A) → 1 ≤ length ((after code c).spell x)
after_some code c x = omega arith

pub tagged_some : {X : Type 0} (tags : List (ℕ × ℕ)) (tag : X → ℕ) (body : ℕ → Codec X) (x : X) → 1 ≤ length ((tagged tags tag body).spell x)
tagged_some tags tag body x = omega arith

-- a value or nothing, behind one byte

abbrev pub maybe_tag : {A : Type 0} → Option A → ℕ
maybe_tag None = 0
maybe_tag (Some x) = 1

abbrev pub as_none : {A : Type 0} → Option A → Option (Unit {0})
as_none None = Some tt
as_none (Some x) = None

abbrev pub as_some : {A : Type 0} → Option A → Option A
as_some o = o

abbrev pub maybe_body : {A : Type 0} → Codec A → ℕ → Codec (Option A)
maybe_body c t = if t == 0 then variant (λ _. None) as_none nothing else variant Some as_some c

abbrev pub maybe : {A : Type 0} → Codec A → Codec (Option A)
maybe c = tagged ((0, 1) ∷ []) maybe_tag (maybe_body c)

none_forth : {A : Type 0} (o : Option A) (u : Unit {0}) → as_none o ≡ Some u → None ≡ o
none_forth None u e = refl
none_forth (Some x) u e = absurd cc

some_forth : {A : Type 0} (o : Option A) (x : A) → as_some o ≡ Some x → Some x ≡ o
some_forth o x e = sym e

maybe_body_law : {A : Type 0} (c : Codec A) → IsCodec c → (t : ℕ) → IsCodec (maybe_body c t)
maybe_body_law c law t = chosen_law (eqb t 0) _ _ (variant_law _ _ nothing_law (λ u. refl) none_forth) (variant_law _ _ law (λ x. refl) some_forth)

body_tag : {A : Type 0} (c : Codec A) (b : Bool) (t : ℕ) (o : Option A) → eqb t 0 ≡ b → meets ((0, 1) ∷ []) t t ≡ true → (cond b (variant (λ _. None) as_none nothing) (variant Some as_some c)).fits o ≡ true → maybe_tag o ≡ t
body_tag c true t None is m e = sym (eqb-true _ _ is)
body_tag c true t (Some x) is m e = absurd cc
body_tag c false t None is m e = absurd cc
body_tag c false t (Some x) is m e = grind (arith, nat_tests)

pub maybe_law : {A : Type 0} (c : Codec A) → IsCodec c → IsCodec (maybe c)
maybe_law c law = tagged_law _ maybe_tag (maybe_body c) (maybe_body_law c law) (λ t o m e. body_tag c (eqb t 0) t o refl m e)

-- The laws of states and ops, from the law of their format.

pub loads_saved : {A : Type 0} (c : Codec A) → IsExact c → (x : A) → c.fits x ≡ true → whole c (c.spell x) ≡ Ok x
loads_saved c law x e = whole_only law (c.spell x) x (e, refl)

pub loads_only : {A : Type 0} (c : Codec A) → IsExact c → (bytes : List ℕ) (x : A) → IsBytes bytes → whole c bytes ≡ Ok x → (c.fits x ≡ true) × (bytes ≡ c.spell x)
loads_only c law bytes x fits e = whole_found law bytes x fits e

pub reads_only : {A : Type 0} (c : Codec A) → IsExact c → (bytes : List ℕ) (x : A) (rest : List ℕ) → IsBytes bytes → c.read bytes ≡ Ok (x, rest) → (c.fits x ≡ true) × (bytes ≡ c.spell x ++ rest)
reads_only c law bytes x rest fits e = let t = law.takes bytes x rest fits e in (t.1, t.0.parts)
