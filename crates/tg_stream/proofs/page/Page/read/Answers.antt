use Rattle.std.proofs.Common.{sym, subst}
use Rattle.tg_stream.specs.Pages.{Says}
use Rattle.tg_stream.proofs.Kept.{says}
use Rattle.tg_stream.proofs.page.Page.read.Goals as goal

pub invariant_of-result : goal.invariant_of-result
invariant_of-result c = subst (Says c.args.cell) (sym c.in_ok-entry.ensures) (says c.args.cell c.in_ok-read.read c.in_ok-read.ensures.entry c.in_ok-read.ensures.spelled)
