-- The one base with which the view begins.
use Rattle.std.specs.Prelude.{◌≡◌, List, [], ◌∷◌, ◌++◌, refl}
use Rattle.std.proofs.Common.{sym, ap, ◌∙◌, subst}
use Rattle.tg_kind.specs.Meaning.{Meaning}
use Rattle.tg_protocol.specs.Versions.{no_versions}
use Rattle.tg_protocol.specs.Views.{fresh_base}
use Rattle.tg_protocol.specs.Words.{directory}
use Rattle.tg_vers.specs.Kept.{Objects, Keeps}
use Rattle.tg_play.specs.declared.base.Base.{Base}
use Rattle.tg_play.specs.Relations.{KeepsBases}

one_base : {S : Type 0} (bs new : List (Base S)) (b : Base S) → bs ≡ [] → new ≡ bs ++ b ∷ [] → new ≡ b ∷ []
one_base {S} bs new b none is = is ∙ ap (λ (xs : List (Base S)). xs ++ b ∷ []) none

pub keeps_first : (m : Meaning) (bs new : List (Base m.state)) (s : m.state) (os : Objects) → bs ≡ [] → new ≡ bs ++ record { oid = directory; state = s; vers = os; upto = 0 } ∷ [] → s ≡ m.fresh directory [] → Keeps os no_versions
    → KeepsBases m new (fresh_base m [] directory ∷ [])
unfolding no_versions
keeps_first m bs new s os none is state keeps =
    subst (λ (xs : List (Base m.state)). KeepsBases m xs (fresh_base m [] directory ∷ [])) (sym (one_base bs new (record { oid = directory; state = s; vers = os; upto = 0 }) none is))
    (record { oid = refl; state = state; versions = keeps; based = refl; upto = refl }, tt)
