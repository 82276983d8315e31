use Rattle.std.proofs.Common.{ap, ◌∙◌}
use Rattle.std.specs.Prelude.{filter}
use Rattle.tg_audit.proofs.Kept.{take_whole, commits_alike}
use Rattle.tg_audit.specs.Judging.{is_of, entry_of}
use Rattle.tg_audit.proofs.Means.{means}
use Rattle.tg_audit.proofs.run.Run.committed.Goals as goal

pub returns : goal.returns
returns g c =
    c.has_commit.ensures
    ∙ commits_alike (means g.K.Kind g.K.Registry) g.K.Judged.same_ops c.marks-marks.result.now c.args.self.now.trace.now c.args.client c.args.tx c.args.at c.entries-entries.result.now c.args.self.now.history.now
    (c.marks-marks.ensures ∙ ap (filter (is_of (means g.K.Kind g.K.Registry) c.args.client c.args.tx)) (take_whole c.args.self.now.trace.now))
    (c.entries-entries.ensures ∙ ap (filter (entry_of (means g.K.Kind g.K.Registry) c.args.client c.args.tx)) (take_whole c.args.self.now.history.now))
