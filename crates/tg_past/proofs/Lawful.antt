-- Bases that are lawful, one after another.
use Rattle.std.specs.Prelude.{◌≡◌, List, [], ◌∷◌, ◌++◌, Option, Some, IfSome}
use Rattle.std.proofs.Common.{sym, subst}
use Rattle.tg_play.specs.declared.base.Base.{Base}
use Rattle.tg_play.specs.Lawful.{IsLawfulBase, AreLawfulBases}

module _ {S : Type 0} where
  pub lawful_some : (b : Option (Base S)) (x : Base S) → b ≡ Some x → IfSome b (λ y. IsLawfulBase y) → IsLawfulBase x
  lawful_some b x is h = subst (λ (o : Option (Base S)). IfSome o (λ y. IsLawfulBase y)) is h

  pub lawful_first : (bs : List (Base S)) → bs ≡ [] → AreLawfulBases bs
  lawful_first bs is = subst (λ (xs : List (Base S)). AreLawfulBases xs) (sym is) tt

  lawful_last : (bs : List (Base S)) (b : Base S) → AreLawfulBases bs → IsLawfulBase b → AreLawfulBases (bs ++ b ∷ [])
  lawful_last [] b h k = (k, tt)
  lawful_last (x ∷ xs) b h k = (h.0, lawful_last xs b h.1 k)

  pub lawful_more : (bs next : List (Base S)) (b : Base S) → next ≡ bs ++ b ∷ [] → AreLawfulBases bs → IsLawfulBase b → AreLawfulBases next
  lawful_more bs next b is h k = subst (λ (xs : List (Base S)). AreLawfulBases xs) (sym is) (lawful_last bs b h k)
