use Rattle.std.proofs.Common.{ap, ◌∙◌}
use Rattle.std.specs.Prelude.{filter}
use Rattle.tg_audit.proofs.Kept.{take_whole}
use Rattle.tg_audit.proofs.Writing.{puts_alike}
use Rattle.tg_audit.specs.Judging.{is_of, are_same}
use Rattle.tg_audit.proofs.Means.{means}
use Rattle.tg_audit.proofs.run.Run.put.Goals as goal

pub returns : goal.returns
returns g c =
    c.are_puts.ensures ∙ ap (are_same (means g.K.Kind g.K.Registry) g.K.Judged.same_ops c.args.writes.now) (puts_alike (means g.K.Kind g.K.Registry) c.args.client c.args.tx c.marks-marks.result.now c.args.self.now.trace.now
    (c.marks-marks.ensures ∙ ap (filter (is_of (means g.K.Kind g.K.Registry) c.args.client c.args.tx)) (take_whole c.args.self.now.trace.now)))
