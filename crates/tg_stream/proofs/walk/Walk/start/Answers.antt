use Rattle.std.proofs.Common.{None, sym, ap, ◌∙◌}
use Rattle.tg_protocol.specs.Walking.{walk_from}
use Rattle.tg_stream.specs.Turns.{by_walk}
use Rattle.tg_stream.specs.Walks.{Course, walk_of}
use Rattle.tg_stream.proofs.Subs.{ok_then}
use Rattle.tg_stream.proofs.Visits.{start-is}
use Rattle.tg_stream.proofs.walk.Walk.start.Goals as goal

pub returns-clause-turn : goal.returns-clause-turn
returns-clause-turn c =
    let old = c.args.rids.now.next in
    ok_then c.go_on.result c.go_on.ensures.turn
    (λ t f.
    f None
    ∙ ap (λ (s : Course). by_walk old (walk_from c.args.proj.now old (walk_of s None))) c.new-course.ensures
    ∙ ap (by_walk old) (sym (start-is c.args.proj.now c.args.oid c.args.lasts c.args.lo c.args.cells old)))
