use Rattle.std.proofs.Common.{Some, ap, sym, subst, ◌∙◌}
use Rattle.tg_base.specs.declared.cell.Cell.{Cell}
use Rattle.tg_entry.specs.declared.entry.Entry.{Entry}
use Rattle.tg_stream.specs.Pages.{unboxed, Says}
use Rattle.tg_stream.proofs.page.Page.kept.Goals as goal

pub returns-in-Some : goal.returns-in-Some
returns-in-Some c =
    subst (λ (x : Cell). Says x (Some c.deref.result.now)) c.self.view_is
    (subst (Says c.self.inside.cell) (ap unboxed c.in-Some.is ∙ ap (λ (e : Entry). Some e) (sym c.deref.ensures)) c.self.invariant)
