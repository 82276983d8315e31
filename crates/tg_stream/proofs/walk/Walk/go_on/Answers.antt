use Rattle.std.proofs.Common.{sym, ap, ◌∙◌}
use Rattle.tg_stream.specs.Turns.{by_walk}
use Rattle.tg_stream.specs.Walks.{walk_of, comes_to}
use Rattle.tg_stream.proofs.walk.Walk.go_on.Goals as goal

pub returns-in-None-clause-turn : goal.returns-in-None-clause-turn
returns-in-None-clause-turn c = λ j.
    let old = c.args.rids.now.next in
    c.end.ensures old j
    ∙ ap (by_walk old) (sym (c.in_ok-over_known.ensures c.args.proj.now old j ∙ ap (comes_to c.args.proj.now old (walk_of c.over_known.new.course j)) c.in-None.is))
