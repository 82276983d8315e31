use Rattle.std.proofs.Common.{◌∙◌}
use Rattle.tg_audit.proofs.Changing.{latest_is}
use Rattle.tg_audit.proofs.versions.changed.Goals as goal

pub returns : goal.returns
returns g c = c.latest.ensures ∙ latest_is _ c.args.oid c.args.part.now c.args.before c.args.history.now
