use Rattle.std.proofs.Common.{Some}
use Rattle.tg_any.proofs.AnyForms.{ok_found, ok_only}
use Rattle.tg_script.specs.Lines.{IsLine, short_read}
use Rattle.tg_script.proofs.EventLines.{line_found, line_only}
use Rattle.tg_script.proofs.line.parse_line.Goals as goal

pub returns-clause-found : goal.returns-clause-found
returns-clause-found c =
    ok_found c.short_line.result (short_read c.args.cluster.now c.args.line.now) (IsLine c.args.cluster.now c.args.line.now) c.short_line.ensures (line_found c.args.cluster.now c.rules.ensures c.args.line.now)

pub returns-clause-only : goal.returns-clause-only
returns-clause-only c l is =
    ok_only c.short_line.result (short_read c.args.cluster.now c.args.line.now) (Some l) c.short_line.ensures (line_only c.args.cluster.now c.rules.ensures c.args.line.now l is)
