use Rattle.std.proofs.Common.{Bool, Option, sym, ap, ◌∙◌}
use Rattle.tg_protocol.specs.Views.{Entries, decision_in, by_decision, verdict}
use Rattle.tg_play.proofs.Means.{means}
use Rattle.tg_play.proofs.Hosting.{objects_in}
use Rattle.tg_play.proofs.view.View.verdict.Goals as goal

pub returns : goal.returns
unfolding verdict
returns g c = λ v k.
    c.verdict.ensures v c.args.entry.now (objects_in _ _ _ v c.self.view_is k.objects) (sym c.reads_of.ensures)
    ∙ ap (λ (d : Option Bool). by_decision (means g.K.Kind g.K.Registry) v c.args.entry.now c.args.pos d)
    (c.decision_among-decision.ensures ∙ ap (λ (es : Entries). decision_in es c.args.pos) c.as_slice.ensures.entries)
