use Rattle.std.proofs.Common.{sym}
use Rattle.tg_script.proofs.EventLines.{line_ascii_only}
use Rattle.tg_script.proofs.line.read_line.Goals as goal

pub returns-in_default : goal.returns-in_default
returns-in_default c = sym (line_ascii_only c.args.cluster.now c.requires c.args.line.now c.in_default.ensures.none)
