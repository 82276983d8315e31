use Rattle.std.proofs.Common.{◌≡◌, Some, ◌&&◌, false, sym, ap, subst, ◌∙◌}
use Rattle.tg_protocol.specs.Requests.{awaits}
use Rattle.tg_protocol.specs.Cells.{Place, cell_asks}
use Rattle.tg_protocol.specs.Walking.{Walk, walk_asks, walk_end}
use Rattle.tg_chain.specs.Ends.{get_end}
use Rattle.tg_chain.specs.Turns.{by_rules, fed, needs_memory}
use Rattle.tg_stream.specs.Turns.{by_walk}
use Rattle.tg_stream.specs.Walks.{walk_of, walk_fed}
use Rattle.tg_stream.proofs.Subs.{told_more, told_end, ok_then, feed_goes, feed_place, feed_ends, feed_quiet}
use Rattle.tg_stream.proofs.walk.Walk.feed.Goals as goal

pub wait-requires : goal.wait-requires
wait-requires c =
    let old = c.args.rids.now.next in
    let job = c.self.inside.get in
    let turn = told_more c.in_ok-get.field-0 c.in-More.get c.in-More.outs c.feed.new.rids.next (by_rules cell_asks old (fed job c.args.from c.args.rid c.args.msg.now old)) c.in-More.is c.in_ok-get.ensures.turn in
    ap (λ (a : Place). a.pos) (feed_place job c.in-More.get c.args.from c.args.rid c.args.msg.now old c.feed.new.rids.next c.in-More.outs turn) ∙ c.self.invariant

pub returns-in-More-clause-turn : goal.returns-in-More-clause-turn
returns-in-More-clause-turn c =
    let old = c.args.rids.now.next in
    let job = c.self.inside.get in
    let turn = told_more c.in_ok-get.field-0 c.in-More.get c.in-More.outs c.feed.new.rids.next (by_rules cell_asks old (fed job c.args.from c.args.rid c.args.msg.now old)) c.in-More.is c.in_ok-get.ensures.turn in
    c.wait.ensures c.feed.new.rids.next
    ∙ feed_goes c.args.proj.now c.self.inside.course job c.in-More.get c.args.from c.args.rid c.args.msg.now old c.feed.new.rids.next c.in-More.outs turn
    ∙ ap (λ (w : Walk). by_walk old (walk_fed c.args.proj.now w c.args.from c.args.rid c.args.msg.now old)) c.self.view_is

pub returns-clause-turn : goal.returns-clause-turn
returns-clause-turn c =
    let old = c.args.rids.now.next in
    let job = c.self.inside.get in
    let end = get_end c.in-End.end in
    let here = walk_of c.self.inside.course (Some job) in
    let turn = told_end c.in_ok-get.field-0 c.in-End.end c.in-End.outs c.feed.new.rids.next (by_rules cell_asks old (fed job c.args.from c.args.rid c.args.msg.now old)) c.in-End.is c.in_ok-get.ensures.turn in
    ok_then c.read_over.result c.read_over.ensures.turn
    (λ t f.
    f (Some job)
    ∙ ap (λ q. by_walk old (walk_end c.args.proj.now here q end old)) (sym c.self.invariant)
    ∙ ap (by_walk old) (sym (feed_ends c.args.proj.now c.self.inside.course job end c.args.from c.args.rid c.args.msg.now old c.feed.new.rids.next c.in-End.outs turn))
    ∙ ap (λ (w : Walk). by_walk old (walk_fed c.args.proj.now w c.args.from c.args.rid c.args.msg.now old)) c.self.view_is)

pub returns-clause-free : goal.returns-clause-free
returns-clause-free c = λ idle.
    let old = c.args.rids.now.next in
    let job = c.self.inside.get in
    let end = get_end c.in-End.end in
    let turn = told_end c.in_ok-get.field-0 c.in-End.end c.in-End.outs c.feed.new.rids.next (by_rules cell_asks old (fed job c.args.from c.args.rid c.args.msg.now old)) c.in-End.is c.in_ok-get.ensures.turn in
    c.read_over.ensures.free
    (feed_quiet job end c.args.from c.args.rid c.args.msg.now old c.feed.new.rids.next c.in-End.outs turn
    (subst (λ (w : Walk). (awaits (walk_asks w) c.args.from c.args.rid && needs_memory c.args.msg.now) ≡ false) (sym c.self.view_is) idle))
