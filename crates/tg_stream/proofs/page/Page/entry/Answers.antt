use Rattle.std.proofs.Common.{true, Some, ap, sym, subst, ◌≡◌, ◌∙◌}
use Rattle.std.specs.Prelude.{IfOk, option_copied}
use Rattle.tg_base.specs.declared.cell.Cell.{Cell}
use Rattle.tg_entry.specs.declared.entry.Entry.{Entry}
use Rattle.tg_entry.specs.Format.{entry}
use Rattle.tg_protocol.specs.Pages.{entry_in}
use Rattle.tg_stream.specs.Pages.{Says}
use Rattle.tg_stream.proofs.page.Page.entry.Goals as goal

pub returns-in-None-clause-entry : goal.returns-in-None-clause-entry
returns-in-None-clause-entry c = subst (λ (x : Cell). IfOk c.entry_in.result (λ e. e ≡ entry_in x)) c.cell.ensures c.entry_in.ensures.entry

pub returns-in_ok-copy-in-Some-clause-entry : goal.returns-in_ok-copy-in-Some-clause-entry
returns-in_ok-copy-in-Some-clause-entry c = ap (λ (e : Entry). Some e) c.in_ok-copy-in-Some.ensures ∙ (subst (Says c.args.self.now) (ap option_copied c.in-Some.is) c.kept.ensures).0

pub returns-in_ok-copy-in-Some-clause-spelled : goal.returns-in_ok-copy-in-Some-clause-spelled
returns-in_ok-copy-in-Some-clause-spelled c = subst (λ (e : Entry). entry.fits e ≡ true) (sym c.in_ok-copy-in-Some.ensures) (subst (Says c.args.self.now) (ap option_copied c.in-Some.is) c.kept.ensures).1
