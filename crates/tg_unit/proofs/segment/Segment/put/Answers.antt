use Rattle.std.proofs.Common.{◌∙◌, ap}
use Rattle.tg_unit.specs.Bits.{with_bit}
use Rattle.tg_unit.proofs.Bits.{put-segment}
use Rattle.tg_unit.proofs.segment.Segment.put.Goals as goal

pub returns-clause-whole : goal.returns-clause-whole
returns-clause-whole c =
    put-segment c.args.self.now (record { held = c.with_bit-self.result; junk = c.with_bit-self-2.result; cells = c.put_cell.new.cells }) c.args.place c.args.cell
    c.requires.place c.requires.free c.requires.whole c.with_bit-self.ensures
    (c.with_bit-self-2.ensures ∙ ap (λ b. with_bit b c.args.self.now.junk c.args.place) c.is_junk-is_junk.ensures) c.in_ok-put_cell.ensures.ok
