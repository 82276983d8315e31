use Rattle.std.proofs.Common.{ap, ◌∙◌}
use Rattle.tg_base.specs.Layouts.{Layout}
use Rattle.tg_protocol.specs.Cells.{Place, cell_asks, get_cell, place_in}
use Rattle.tg_chain.specs.Ends.{get_end}
use Rattle.tg_chain.specs.Turns.{by_rules}
use Rattle.tg_stream.proofs.Subs.{told_more, told_end, same_place, read_place, read_goes, read_ends}
use Rattle.tg_stream.proofs.walk.Walk.read.Goals as goal

pub wait-requires : goal.wait-requires
wait-requires c =
    let here = same_place c.args.proj.now c.args.pos c.proj.inside.epoch c.units_at-units.result c.units_at-units.ensures.units (ap (λ (p : Layout). p.epoch) c.proj.view_is) in
    let at = place_in c.args.proj.now c.args.pos in
    let old = c.args.rids.now.next in
    let turn = told_more c.in_ok-get.field-0 c.in-More.get c.in-More.outs c.start.new.rids.next (by_rules cell_asks old (get_cell at old)) c.in-More.is (c.in_ok-get.ensures.turn ∙ ap (λ (a : Place). by_rules cell_asks old (get_cell a old)) here) in
    ap (λ (a : Place). a.pos) (read_place at c.in-More.get old c.start.new.rids.next c.in-More.outs turn)

pub unreachable-requires : goal.unreachable-requires
unreachable-requires c =
    let here = same_place c.args.proj.now c.args.pos c.proj.inside.epoch c.units_at-units.result c.units_at-units.ensures.units (ap (λ (p : Layout). p.epoch) c.proj.view_is) in
    let at = place_in c.args.proj.now c.args.pos in
    let old = c.args.rids.now.next in
    let turn = told_end c.in_ok-get.field-0 c.in-End.end c.in-End.outs c.start.new.rids.next (by_rules cell_asks old (get_cell at old)) c.in-End.is (c.in_ok-get.ensures.turn ∙ ap (λ (a : Place). by_rules cell_asks old (get_cell a old)) here) in
    read_ends at (get_end c.in-End.end) old c.start.new.rids.next c.in-End.outs turn

pub returns-clause-turn : goal.returns-clause-turn
returns-clause-turn c = λ j.
    let here = same_place c.args.proj.now c.args.pos c.proj.inside.epoch c.units_at-units.result c.units_at-units.ensures.units (ap (λ (p : Layout). p.epoch) c.proj.view_is) in
    let at = place_in c.args.proj.now c.args.pos in
    let old = c.args.rids.now.next in
    let turn = told_more c.in_ok-get.field-0 c.in-More.get c.in-More.outs c.start.new.rids.next (by_rules cell_asks old (get_cell at old)) c.in-More.is (c.in_ok-get.ensures.turn ∙ ap (λ (a : Place). by_rules cell_asks old (get_cell a old)) here) in
    c.wait.ensures c.start.new.rids.next ∙ read_goes c.args.course at c.in-More.get j old c.start.new.rids.next c.in-More.outs turn
