use Rattle.std.proofs.Common.{take, ◌∙◌}
use Rattle.tg_audit.proofs.Kept.{passes_alike}
use Rattle.tg_audit.specs.Judging.{snapshot_is}
use Rattle.tg_audit.proofs.Means.{means}
use Rattle.tg_audit.proofs.run.Run.asked_before.Goals as goal

pub returns : goal.returns
returns g c =
    c.all_at.ensures ∙ passes_alike (means g.K.Kind g.K.Registry) c.args.client c.args.tx (snapshot_is (means g.K.Kind g.K.Registry) c.args.snapshot) c.marks-marks.result.now (take c.args.place c.args.self.now.trace.now) c.marks-marks.ensures
