use Rattle.std.proofs.Common.{[], ◌∷◌, ◌/◌}
use Rattle.tg_script.specs.declared.line.Line.TheVariants as line
use Rattle.tg_gen.specs.Loads.{reconf}
use Rattle.tg_gen.proofs.Texts.{none_unless}
use Rattle.tg_gen.proofs.load.put_middle.Goals as goal

pub returns-else-i-count : goal.returns-else-i-count
returns-else-i-count c = none_unless c.args.out.now c.args.i (c.args.count / 2) (reconf ∷ line.Settle ∷ []) c.if-i-count.false
