use Rattle.std.proofs.Common.{take, ◌∙◌}
use Rattle.tg_audit.proofs.Kept.{entries_alike}
use Rattle.tg_audit.proofs.Means.{means}
use Rattle.tg_audit.proofs.run.Run.entered_before.Goals as goal

pub returns : goal.returns
returns g c =
    c.has_entry.ensures ∙ entries_alike (means g.K.Kind g.K.Registry) c.args.client c.args.tx c.entries-entries.result.now (take c.args.place c.args.self.now.history.now) c.entries-entries.ensures
