use Rattle.std.proofs.Common.{◌∙◌, ap, ℕ, List, Bool}
use Rattle.tg_play.specs.Kept.{at_position}
use Rattle.tg_play.proofs.Means.{means}
use Rattle.tg_play.proofs.Places.{fates_told}
use Rattle.tg_play.proofs.view.View.fate.Goals as goal

pub returns : goal.returns
returns g c = λ v k.
    c.told_fate.ensures
    ∙ ap (λ (xs : List (ℕ × Bool)). at_position xs c.args.pos) k.fates
    ∙ fates_told (means g.K.Kind g.K.Registry) v.fates c.args.pos
