use Rattle.std.proofs.Common.{◌∙◌}
use Rattle.tg_play.proofs.view.View.upto.Goals as goal

pub returns : goal.returns
returns g c = λ v k. c.end.ensures ∙ k.upto
