use Rattle.std.proofs.Common.{ap, ◌∙◌}
use Rattle.std.specs.Prelude.{filter}
use Rattle.tg_audit.proofs.Kept.{take_whole, only_alike}
use Rattle.tg_audit.specs.Judging.{entry_of}
use Rattle.tg_audit.proofs.Means.{means}
use Rattle.tg_audit.proofs.run.Run.entered_at.Goals as goal

pub returns : goal.returns
returns g c =
    c.only_at.ensures ∙ only_alike (means g.K.Kind g.K.Registry) c.args.client c.args.tx c.args.at c.entries-entries.result.now c.args.self.now.history.now
    (c.entries-entries.ensures ∙ ap (filter (entry_of (means g.K.Kind g.K.Registry) c.args.client c.args.tx)) (take_whole c.args.self.now.history.now))
