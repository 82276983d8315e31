use Rattle.std.proofs.Common.{[], ◌∷◌}
use Rattle.tg_script.specs.declared.line.Line.TheVariants as line
use Rattle.tg_gen.specs.Loads.{update}
use Rattle.tg_gen.proofs.Texts.{on_two}
use Rattle.tg_gen.proofs.lines.put_updated.Goals as goal

pub returns : goal.returns
returns c =
    on_two c.put_settle.result c.args.out.now c.put_update.new.out c.put_settle.new.out (update c.args.client c.args.target c.args.value ∷ []) (line.Settle ∷ [])
    c.in_ok-put_update.ensures c.put_settle.ensures
