use Rattle.std.proofs.Common.{sym}
use Rattle.tg_script.specs.Headers.{sizes}
use Rattle.tg_script.proofs.Headers.{sizes_law, sizes_plain}
use Rattle.tg_script.proofs.Lines.{line_none}
use Rattle.tg_script.proofs.header.sizes_line.Goals as goal

pub returns-in_default : goal.returns-in_default
returns-in_default c = sym (line_none sizes sizes_law sizes_plain c.args.line.now c.in_default.ensures.none)
