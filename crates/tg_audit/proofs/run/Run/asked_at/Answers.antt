use Rattle.std.proofs.Common.{ap, ◌∙◌}
use Rattle.std.specs.Prelude.{filter}
use Rattle.tg_audit.proofs.Kept.{take_whole, passes_alike}
use Rattle.tg_audit.specs.Judging.{is_of, snapshot_is}
use Rattle.tg_audit.proofs.Means.{means}
use Rattle.tg_audit.proofs.run.Run.asked_at.Goals as goal

pub returns : goal.returns
returns g c =
    c.all_at.ensures ∙ passes_alike (means g.K.Kind g.K.Registry) c.args.client c.args.tx (snapshot_is (means g.K.Kind g.K.Registry) c.args.snapshot) c.marks-marks.result.now c.args.self.now.trace.now
    (c.marks-marks.ensures ∙ ap (filter (is_of (means g.K.Kind g.K.Registry) c.args.client c.args.tx)) (take_whole c.args.self.now.trace.now))
