use Rattle.std.proofs.Common.{◌∙◌}
use Rattle.tg_audit.proofs.Kept.{stamps_alike}
use Rattle.tg_audit.proofs.Means.{means}
use Rattle.tg_audit.proofs.run.Run.stamps.Goals as goal

pub returns : goal.returns
returns g c = c.has_stamp.ensures ∙ stamps_alike (means g.K.Kind g.K.Registry) c.args.at c.stamped.result.now c.args.self.now.history.now c.stamped.ensures
