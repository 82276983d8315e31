use Rattle.std.proofs.Common.{sym, ◌≤◌, ◌^◌, arith}
use Rattle.tg_script.specs.Headers.{stripes}
use Rattle.tg_script.proofs.Headers.{stripes_law, stripes_plain}
use Rattle.tg_script.proofs.Lines.{line_none}
use Rattle.tg_script.proofs.header.stripes_line.Goals as goal

pub returns-in_default : goal.returns-in_default
returns-in_default c =
    let few : c.args.units ≤ 2 ^ 64 = omega arith in
    sym (line_none (stripes c.args.units) (stripes_law c.args.units few) (stripes_plain c.args.units few) c.args.line.now c.in_default.ensures.none)
