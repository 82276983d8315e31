use Rattle.std.proofs.Common.{Bool, Option, sym, ap, ◌∙◌}
use Rattle.tg_protocol.specs.Views.{by_decision}
use Rattle.tg_play.proofs.Means.{means}
use Rattle.tg_play.proofs.Reading.{decision_none}
use Rattle.tg_play.proofs.reads.verdict.Goals as goal

pub returns-in-None : goal.returns-in-None
returns-in-None g c = λ v e k same.
    decision_none (means g.K.Kind g.K.Registry) v e c.args.pos c.args.reads.now _ same (c.by_versions.ensures v k)
    ∙ ap (λ (d : Option Bool). by_decision (means g.K.Kind g.K.Registry) v e c.args.pos d) (sym c.in-None.is)
