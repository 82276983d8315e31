use Rattle.std.proofs.Common.{[], ◌∷◌}
use Rattle.tg_script.specs.declared.line.Line.TheVariants as line
use Rattle.tg_gen.specs.Loads.{begin, ask, end}
use Rattle.tg_gen.proofs.Texts.{on_two}
use Rattle.tg_gen.proofs.lines.put_look.Goals as goal

pub returns : goal.returns
returns c =
    let client = c.args.client in
    on_two c.put_given.result c.args.out.now c.put_asked.new.out c.put_given.new.out (begin client ∷ ask client c.args.target c.args.value ∷ line.Settle ∷ []) (end client ∷ [])
    c.in_ok-put_asked.ensures c.put_given.ensures
