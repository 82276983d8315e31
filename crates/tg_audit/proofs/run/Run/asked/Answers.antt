use Rattle.std.proofs.Common.{ap, ◌∙◌}
use Rattle.std.specs.Prelude.{filter}
use Rattle.tg_audit.proofs.Kept.{take_whole, meets_alike}
use Rattle.tg_audit.specs.Judging.{is_of, any_ask}
use Rattle.tg_audit.proofs.Means.{means}
use Rattle.tg_audit.proofs.run.Run.asked.Goals as goal

pub returns : goal.returns
returns g c =
    c.has_asked.ensures ∙ meets_alike (means g.K.Kind g.K.Registry) c.args.client c.args.tx (any_ask (means g.K.Kind g.K.Registry)) c.marks-marks.result.now c.args.self.now.trace.now
    (c.marks-marks.ensures ∙ ap (filter (is_of (means g.K.Kind g.K.Registry) c.args.client c.args.tx)) (take_whole c.args.self.now.trace.now))
