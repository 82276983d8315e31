use Rattle.std.proofs.Common.{ℕ, List, Option, IfOk, sym, subst}
use Rattle.tg_io.specs.declared.status.Status.{Status}
use Rattle.tg_live.specs.declared.live.Live.{Live as Kept}
use Rattle.tg_live.specs.Scripts.{Over, Outcome}
use Rattle.tg_live.specs.Stages.{Ends}
use Rattle.tg_live.proofs.Promises.{text_said}
use Rattle.tg_live.proofs.report.text_of.Goals as goal

pub returns-in-Some : goal.returns-in-Some
returns-in-Some c =
    subst (λ (x : Option Kept). IfOk c.text.result (λ out. (o : Over) (text : List ℕ) (end : Status) → Ends o text end x → Outcome o text end out)) (sym c.in-Some.is) (text_said c.text.result c.in-Some.live c.text.ensures)
