use Rattle.std.proofs.Common.{◌∙◌, sym, ap}
use Rattle.tg_protocol.specs.Trimming.{read_end}
use Rattle.tg_chain.specs.Ends.{get_end as get_ended}
use Rattle.tg_copy.specs.Turns.{by_copy}
use Rattle.tg_copy.specs.Copies.{copying}
use Rattle.tg_copy.proofs.copy_range.CopyRange.read_over.Goals as goal

pub returns-in-Fenced-clause-turn : goal.returns-in-Fenced-clause-turn
returns-in-Fenced-clause-turn c = λ w.
    let p = c.args.proj.now in
    let n = c.args.rids.now.next in
    c.learn.ensures p n w ∙ ap (λ e. by_copy p n (read_end p (copying c.args.join w) c.args.pos (get_ended e) n)) (sym c.in-Fenced.is)
