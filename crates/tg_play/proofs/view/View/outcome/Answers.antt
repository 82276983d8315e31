use Rattle.std.proofs.Common.{sym, ◌∙◌}
use Rattle.tg_play.proofs.Means.{means}
use Rattle.tg_play.proofs.Deciding.{outcome_told}
use Rattle.tg_play.proofs.Hosting.{objects_in}
use Rattle.tg_play.proofs.view.View.outcome.Goals as goal

pub returns : goal.returns
returns g c = λ v k.
    c.verdict.ensures v c.args.entry.now (objects_in _ _ _ v c.self.view_is k.objects) (sym c.reads_of.ensures)
    ∙ outcome_told (means g.K.Kind g.K.Registry) v c.args.self.now c.args.entries.now c.args.pos c.args.entry.now _ k c.said-said.ensures
