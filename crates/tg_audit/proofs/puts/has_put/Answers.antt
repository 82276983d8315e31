use Rattle.std.proofs.Common.{◌∙◌}
use Rattle.tg_audit.proofs.Writing.{some_puts}
use Rattle.tg_audit.proofs.puts.has_put.Goals as goal

pub returns : goal.returns
returns g c = c.some_put.ensures ∙ some_puts _ c.args.client c.args.tx c.args.trace.now
