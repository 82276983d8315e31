use Rattle.std.proofs.Common.{[], ◌∷◌, ◌++◌, ap, ◌∙◌}
use Rattle.tg_script.specs.declared.line.Line.TheVariants as line
use Rattle.tg_gen.specs.declared.round.Target.{Target}
use Rattle.tg_gen.specs.Loads.{after, begin, ask, put, end, rival_lines, text}
use Rattle.tg_gen.proofs.Texts.{two, on_two}
use Rattle.tg_gen.proofs.lines.put_change.Goals as goal

pub returns : goal.returns
returns c =
    let client = c.args.client in
    let v = c.args.value in
    let asked = begin client ∷ ask client c.args.target v ∷ line.Settle ∷ [] in
    let puts = put client (after c.args.target) v in
    let rest =
    on_two c.put_settle.result c.put_rival.new.out c.put_given.new.out c.put_settle.new.out (puts ∷ end client ∷ []) (line.Settle ∷ [])
    (two c.put_rival.new.out c.put_op.new.out c.put_given.new.out (puts ∷ []) (end client ∷ [])
    (c.in_ok-put_op.ensures ∙ ap (λ (t : Target). c.put_rival.new.out ++ text (put client t v ∷ [])) c.after.ensures) c.in_ok-put_given.ensures)
    c.put_settle.ensures in
    on_two c.put_settle.result c.args.out.now c.put_rival.new.out c.put_settle.new.out (asked ++ rival_lines c.args.target v) (puts ∷ end client ∷ line.Settle ∷ [])
    (two c.args.out.now c.put_asked.new.out c.put_rival.new.out asked (rival_lines c.args.target v) c.in_ok-put_asked.ensures c.in_ok-put_rival.ensures) rest
