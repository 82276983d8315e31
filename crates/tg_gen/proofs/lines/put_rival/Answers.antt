use Rattle.std.proofs.Common.{[], ◌∷◌, ◌%◌}
use Rattle.tg_gen.specs.Loads.{update, other}
use Rattle.tg_gen.proofs.Texts.{none_unless}
use Rattle.tg_gen.proofs.lines.put_rival.Goals as goal

pub returns-else-value-eq0 : goal.returns-else-value-eq0
returns-else-value-eq0 c = none_unless c.args.out.now (c.args.value % 2) 0 (update other c.args.target c.args.value ∷ []) c.if-value-eq0.false
