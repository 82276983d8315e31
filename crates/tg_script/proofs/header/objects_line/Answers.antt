use Rattle.std.proofs.Common.{sym}
use Rattle.tg_script.specs.Headers.{objects}
use Rattle.tg_script.proofs.Headers.{objects_law, objects_plain}
use Rattle.tg_script.proofs.Lines.{line_none}
use Rattle.tg_script.proofs.header.objects_line.Goals as goal

pub returns-in_default : goal.returns-in_default
returns-in_default c = sym (line_none objects objects_law objects_plain c.args.line.now c.in_default.ensures.none)
