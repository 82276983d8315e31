use Rattle.std.proofs.Common.{sym, ap, ◌∙◌}
use Rattle.tg_protocol.specs.Walking.{walk_from, walk_end}
use Rattle.tg_chain.specs.declared.ends.GetCellEnd.{GetCellEnd}
use Rattle.tg_chain.specs.Ends.{get_end}
use Rattle.tg_stream.specs.Turns.{by_walk}
use Rattle.tg_stream.specs.Walks.{Course, walk_of}
use Rattle.tg_stream.proofs.Subs.{ok_then}
use Rattle.tg_stream.proofs.walk.Walk.read_over.Goals as goal

pub returns-in_ok-course-in-Done-clause-turn : goal.returns-in_ok-course-in-Done-clause-turn
returns-in_ok-course-in-Done-clause-turn c =
    let old = c.args.rids.now.next in
    ok_then c.go_on.result c.go_on.ensures.turn
    (λ t f j.
    f j
    ∙ ap (λ (s : Course). by_walk old (walk_from c.args.proj.now old (walk_of s j))) c.in_ok-course-in-Done.ensures
    ∙ ap (λ (e : GetCellEnd). by_walk old (walk_end c.args.proj.now (walk_of c.args.course j) c.args.pos (get_end e) old)) (sym c.in-Done.is))

pub returns-in-Fenced-clause-turn : goal.returns-in-Fenced-clause-turn
returns-in-Fenced-clause-turn c = λ j.
    let old = c.args.rids.now.next in
    c.learn.ensures old j
    ∙ ap (λ (e : GetCellEnd). by_walk old (walk_end c.args.proj.now (walk_of c.args.course j) c.args.pos (get_end e) old)) (sym c.in-Fenced.is)

pub returns-in-Gone-clause-turn : goal.returns-in-Gone-clause-turn
returns-in-Gone-clause-turn c = λ j.
    let old = c.args.rids.now.next in
    c.end_at.ensures old j
    ∙ ap (λ (e : GetCellEnd). by_walk old (walk_end c.args.proj.now (walk_of c.args.course j) c.args.pos (get_end e) old)) (sym c.in-Gone.is)
