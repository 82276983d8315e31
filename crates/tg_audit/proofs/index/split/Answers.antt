use Rattle.tg_audit.proofs.Windows.{splits}
use Rattle.tg_audit.proofs.index.split.Goals as goal

pub returns : goal.returns
returns c =
    splits c.args.stamps.now c.partition_point-place.result c.args.before c.partition_point-place.ensures.bound c.requires (c.is_between.ensures c.if-not-is_between.false)
