use Rattle.std.proofs.Common.{◌∙◌}
use Rattle.tg_play.proofs.view.View.missing_decisions.Goals as goal

pub returns : goal.returns
returns g c = λ v k. c.in_ok-list.ensures ∙ k.open_records
