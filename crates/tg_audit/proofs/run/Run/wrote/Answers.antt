use Rattle.std.proofs.Common.{ap, ◌∙◌}
use Rattle.std.specs.Prelude.{filter}
use Rattle.tg_audit.proofs.Kept.{take_whole}
use Rattle.tg_model.specs.Traces.{has_items}
use Rattle.tg_audit.proofs.Writing.{puts_alike}
use Rattle.tg_audit.specs.Judging.{is_of}
use Rattle.tg_audit.proofs.Means.{means}
use Rattle.tg_audit.proofs.run.Run.wrote.Goals as goal

pub returns : goal.returns
returns g c =
    c.has_put.ensures ∙ ap (has_items (means g.K.Kind g.K.Registry)) (puts_alike (means g.K.Kind g.K.Registry) c.args.client c.args.tx c.marks-marks.result.now c.args.self.now.trace.now
    (c.marks-marks.ensures ∙ ap (filter (is_of (means g.K.Kind g.K.Registry) c.args.client c.args.tx)) (take_whole c.args.self.now.trace.now)))
