use Rattle.std.proofs.Common.{[], ◌∷◌}
use Rattle.tg_script.specs.declared.line.Line.TheVariants as line
use Rattle.tg_gen.specs.Loads.{begin, ask}
use Rattle.tg_gen.proofs.Texts.{two, on_two}
use Rattle.tg_gen.proofs.lines.put_asked.Goals as goal

pub returns : goal.returns
returns c =
    let client = c.args.client in
    let asks = ask client c.args.target c.args.value in
    on_two c.put_settle.result c.args.out.now c.put_ask.new.out c.put_settle.new.out (begin client ∷ asks ∷ []) (line.Settle ∷ [])
    (two c.args.out.now c.put_given.new.out c.put_ask.new.out (begin client ∷ []) (asks ∷ []) c.in_ok-put_given.ensures c.in_ok-put_ask.ensures) c.put_settle.ensures
