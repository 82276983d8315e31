use Rattle.std.proofs.Common.{◌∙◌}
use Rattle.tg_reconf.proofs.Awaiting.{awaits_both}
use Rattle.tg_reconf.proofs.requests.is_expected.Goals as goal

pub returns : goal.returns
returns c = c.is_one.ensures ∙ awaits_both c.args.plan.now c.args.work.now c.args.from c.args.rid
