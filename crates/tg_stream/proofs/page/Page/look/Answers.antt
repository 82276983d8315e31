use Rattle.std.proofs.Common.{sym, subst}
use Rattle.tg_stream.specs.Pages.{Says}
use Rattle.tg_stream.proofs.Kept.{says}
use Rattle.tg_stream.proofs.page.Page.look.Goals as goal

pub invariant_of-self : goal.invariant_of-self
invariant_of-self c = subst (Says c.self.inside.cell) (sym c.in_ok-entry.ensures) (says c.self.inside.cell c.in_ok-read.read c.in_ok-read.ensures.entry c.in_ok-read.ensures.spelled)
