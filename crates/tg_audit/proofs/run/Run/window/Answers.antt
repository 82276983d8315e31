use Rattle.std.proofs.Common.{ap, ◌∙◌}
use Rattle.tg_audit.proofs.Kept.{covers}
use Rattle.tg_audit.proofs.Means.{means}
use Rattle.tg_audit.specs.Places.{window_of}
use Rattle.tg_audit.proofs.run.Run.window.Goals as goal

pub returns : goal.returns
returns g c =
    covers (means g.K.Kind g.K.Registry) c.args.client c.args.tx c.args.self.now.trace.now c.args.self.now.tables.now.marks.windows c.window.result c.requires.marks
    (c.window.ensures ∙ ap (window_of c.args.self.now.tables.now.marks.windows) c.key.ensures)
